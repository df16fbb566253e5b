-- What is written for a page or a commit sector reads as it (this product's image format).
use Rattle.std.proofs.Common.{◌≡◌, ℕ, ◌-◌, ◌^◌, ◌<◌, ◌≤◌, List, [], ◌∷◌, ◌++◌, length, take, replicate, refl, ap, ◌∙◌, arith, length-append}
use Rattle.std.proofs.lemmas.List.{drop_at, take_at}
use Rattle.dc_sectors.specs.declared.sector.Sector.TheVariants.{Bytes}
use Rattle.dc_sectors.specs.Fields.{number_bytes}
use Rattle.dc_sectors.proofs.Numbers.{length-number_bytes, field-number_bytes, field-append}
use Rattle.dc_pages.specs.Group.{IsHead, IsPage, IsCommit, commit_kind, head_bytes, page_bytes, commit_bytes}
use Rattle.dc_pages.specs.declared.site.Site.{Site}

pub length-head_bytes : (kind version used index session sequence : ℕ) → length (head_bytes kind version used index session sequence) ≡ 24
unfolding head_bytes
length-head_bytes kind version used index session sequence =
    let first = (kind ∷ version ∷ []) ++ number_bytes 2 used in
    let second = first ++ number_bytes 4 index in
    let third = second ++ number_bytes 8 session in
    omega (
      arith,
      length-append (kind ∷ version ∷ []) (number_bytes 2 used),
      length-append first (number_bytes 4 index),
      length-append second (number_bytes 8 session),
      length-append third (number_bytes 8 sequence),
      length-number_bytes 2 used,
      length-number_bytes 4 index,
      length-number_bytes 8 session,
      length-number_bytes 8 sequence,
    )

pub head_bytes-is_head : (kind version used index session sequence : ℕ) (rest : List ℕ) → used < 2 ^ 16 → index < 2 ^ 32 → session < 2 ^ 64 → sequence < 2 ^ 64
    → IsHead kind version used index session sequence (head_bytes kind version used index session sequence ++ rest)
unfolding head_bytes
head_bytes-is_head kind version used index session sequence rest used_fits index_fits session_fits sequence_fits =
    let first = (kind ∷ version ∷ []) ++ number_bytes 2 used in
    let second = first ++ number_bytes 4 index in
    let third = second ++ number_bytes 8 session in
    let fourth = third ++ number_bytes 8 sequence in
    let first_long : length first ≡ 4 = omega (arith, length-append (kind ∷ version ∷ []) (number_bytes 2 used), length-number_bytes 2 used) in
    let second_long : length second ≡ 8 = omega (arith, first_long, length-append first (number_bytes 4 index), length-number_bytes 4 index) in
    let third_long : length third ≡ 16 = omega (arith, second_long, length-append second (number_bytes 8 session), length-number_bytes 8 session) in
    let fourth_long : length fourth ≡ 24 = omega (arith, third_long, length-append third (number_bytes 8 sequence), length-number_bytes 8 sequence) in
    record {
      kind_is = refl;
      version_is = refl;
      used_is = field-append 2 2 fourth rest (omega arith) ∙ field-append 2 2 third (number_bytes 8 sequence) (omega arith) ∙ field-append 2 2 second (number_bytes 8 session) (omega arith)
          ∙ field-number_bytes 2 2 used (kind ∷ version ∷ []) (number_bytes 4 index) refl used_fits;
      index_is = field-append 4 4 fourth rest (omega arith) ∙ field-append 4 4 third (number_bytes 8 sequence) (omega arith) ∙ field-number_bytes 4 4 index first (number_bytes 8 session) first_long index_fits;
      session_is = field-append 8 8 fourth rest (omega arith) ∙ field-number_bytes 8 8 session second (number_bytes 8 sequence) second_long session_fits;
      sequence_is = field-number_bytes 8 16 sequence third rest third_long sequence_fits;
    }

-- what is written for a page reads as that page
pub page_bytes-is_page : (site : Site) (session index : ℕ) (content : List ℕ) → length content ≤ 488 → index < 2 ^ 32 → session < 2 ^ 64 → site.sequence < 2 ^ 64
    → IsPage site session index content (Bytes (page_bytes site session index content))
unfolding page_bytes
page_bytes-is_page site session index content small index_fits session_fits sequence_fits =
    let head = head_bytes site.kind site.version (length content) index session site.sequence in
    let rest = content ++ replicate (488 - length content) 0 in
    record {
      bytes = head ++ rest;
      readable = refl;
      head = head_bytes-is_head site.kind site.version (length content) index session site.sequence rest (omega arith) index_fits session_fits sequence_fits;
      content_is = ap (take (length content)) (drop_at head rest 24 (length-head_bytes site.kind site.version (length content) index session site.sequence))
          ∙ take_at content (replicate (488 - length content) 0) (length content) refl;
    }

-- and what is written for a commit sector as that one
pub commit_bytes-is_commit : (site : Site) (session pages : ℕ) → pages < 2 ^ 32 → session < 2 ^ 64 → site.sequence < 2 ^ 64
    → IsCommit site session pages (Bytes (commit_bytes site session pages))
commit_bytes-is_commit site session pages pages_fit session_fits sequence_fits =
    let page = page_bytes-is_page (record site { kind = commit_kind }) session pages [] (omega arith) pages_fit session_fits sequence_fits in
    record { bytes = page.bytes; readable = page.readable; head = page.head }
