-- The page in the buffer.
use Rattle.std.proofs.Common.{◌≡◌, ℕ, ◌≤◌, ◌+◌, ◌-◌, List, ◌++◌, length, min, replicate, take, drop, arith, ap, sym, ◌∙◌, append_assoc}
use Rattle.std.proofs.lemmas.List.{drop-append-le, drop-take, drop-drop, drop-replicate, drop_at, take_at, length-append, length-drop, length-take-le, take_rest, take-append-drop, take-take}
use borrow.Rule.Slice.PartMut.{put_mid, mid_of, same_len_mid}
use Rattle.dc_pages.specs.Buffer.{IsBuffer}
use Rattle.dc_pages.specs.Group.{head_bytes, page_bytes}
use Rattle.dc_pages.specs.declared.site.Site.{Site}
use Rattle.dc_pages.proofs.Stamped.{length-head_bytes}

module _ (used count k : ℕ) (page bytes : List ℕ) (is : IsBuffer used page) (within : used + count ≤ 488) (all : length bytes ≡ count) (k_is : k ≡ count) where
  front : List ℕ
  front = take used (drop 24 page)

  abbrev grown : List ℕ
  grown = put_mid (24 + used) k page bytes

  front_long : length (take used (drop 24 page)) ≡ used
  front_long = let long = is.long in length-take-le used (drop 24 page) (omega (arith, length-drop 24 page))

  -- what is after the head, with the bytes put in
  content : drop 24 grown ≡ (take used (drop 24 page) ++ bytes) ++ replicate (488 - (used + count)) 0
  content =
      let long = is.long in
      let head_long : length (take (24 + used) page) ≡ 24 + used = length-take-le (24 + used) page (omega arith) in
      let behind : drop (24 + used) page ≡ replicate (488 - used) 0
      = sym (drop-drop used 24 page) ∙ ap (drop used) is.clean ∙ drop_at (take used (drop 24 page)) (replicate (488 - used) 0) used front_long in
      let rest : drop k (drop (24 + used) page) ≡ replicate (488 - (used + count)) 0
      = ap (drop k) behind ∙ drop-replicate k (488 - used) 0 ∙ ap (λ (n : ℕ). replicate n 0) (omega arith) in
      drop-append-le 24 (take (24 + used) page) (bytes ++ drop k (drop (24 + used) page)) (omega arith)
      ∙ ap (λ (l : List ℕ). l ++ (bytes ++ drop k (drop (24 + used) page))) (drop-take 24 used page)
      ∙ ap (λ (l : List ℕ). take used (drop 24 page) ++ (bytes ++ l)) rest
      ∙ sym (append_assoc (take used (drop 24 page)) bytes (replicate (488 - (used + count)) 0))

  both_long : length (take used (drop 24 page) ++ bytes) ≡ used + count
  both_long = omega (arith, front_long, all, length-append (take used (drop 24 page)) bytes)

  pub filled : take (used + count) (drop 24 grown) ≡ take used (drop 24 page) ++ bytes
  filled = ap (take (used + count)) content ∙ take_at (take used (drop 24 page) ++ bytes) (replicate (488 - (used + count)) 0) (used + count) both_long

  pub filled_buffer : IsBuffer (used + count) grown
  filled_buffer = record {
    small = within;
    long = let long = is.long in
        let mid : length (mid_of (24 + used) k page) ≡ k = length-take-le k (drop (24 + used) page) (omega (arith, length-drop (24 + used) page)) in
        same_len_mid (24 + used) k page bytes (all ∙ sym k_is ∙ sym mid) ∙ long;
    clean = content ∙ ap (λ (l : List ℕ). l ++ replicate (488 - (used + count)) 0) (sym filled);
  }

-- a head before the buffer makes the page's sector
pub sealed : (site : Site) (session index used : ℕ) (page new : List ℕ) → IsBuffer used page → new ≡ head_bytes site.kind site.version used index session site.sequence ++ drop 24 page
    → new ≡ page_bytes site session index (take used (drop 24 page))
unfolding page_bytes
sealed site session index used page new is e =
    let long = is.long in
    let small = is.small in
    let full : used ≡ length (take used (drop 24 page)) = sym (length-take-le used (drop 24 page) (omega (arith, length-drop 24 page))) in
    e ∙ ap (λ (l : List ℕ). head_bytes site.kind site.version used index session site.sequence ++ l) is.clean
    ∙ ap (λ (n : ℕ). head_bytes site.kind site.version n index session site.sequence ++ (take used (drop 24 page) ++ replicate (488 - n) 0)) full

-- a head leaves the rest of the buffer
pub headed_buffer : (kind version index session sequence used : ℕ) (page new : List ℕ) → IsBuffer used page → length new ≡ 512 → new ≡ head_bytes kind version used index session sequence ++ drop 24 page
    → IsBuffer used new
headed_buffer kind version index session sequence used page new is long e =
    let same : drop 24 new ≡ drop 24 page = ap (drop 24) e ∙ drop_at (head_bytes kind version used index session sequence) (drop 24 page) 24 (length-head_bytes kind version used index session sequence) in
    record { small = is.small; long = long; clean = same ∙ is.clean ∙ ap (λ (l : List ℕ). take used l ++ replicate (488 - used) 0) (sym same) }

-- the buffer has as many bytes as are used
pub buffer_long : (used : ℕ) (page buffer : List ℕ) → IsBuffer used page → take used (drop 24 page) ≡ buffer → length buffer ≡ used
buffer_long used page buffer is e =
    let long = is.long in
    let small = is.small in
    ap length (sym e) ∙ length-take-le used (drop 24 page) (omega (arith, length-drop 24 page))

-- what one step of a put takes: a prefix of what is left of the bytes
pub part_taken : (at count free : ℕ) (bytes : List ℕ) → at ≤ length bytes → count ≡ min free (length (take (length bytes - at) (drop at bytes)))
    → (take count (take (length bytes - at) (drop at bytes)) ≡ take count (drop at bytes)) × (length (take count (drop at bytes)) ≡ count) × (count ≡ min free (length bytes - at))
part_taken at count free bytes within e =
    let all : take (length bytes - at) (drop at bytes) ≡ drop at bytes = take_rest bytes at in
    let is : count ≡ min free (length bytes - at) = e ∙ ap (λ (l : List ℕ). min free (length l)) all ∙ ap (min free) (length-drop at bytes) in
    (ap (take count) all, length-take-le count (drop at bytes) (omega (arith, is, length-drop at bytes)), is)

pub take-further : (at count : ℕ) (bytes : List ℕ) → take (at + count) bytes ≡ take at bytes ++ take count (drop at bytes)
take-further at count bytes =
    sym (take-append-drop at (take (at + count) bytes))
    ∙ ap (λ (l : List ℕ). l ++ drop at (take (at + count) bytes)) (take-take at (at + count) bytes (omega arith))
    ∙ ap (λ (l : List ℕ). take at bytes ++ l) (drop-take at count bytes)
