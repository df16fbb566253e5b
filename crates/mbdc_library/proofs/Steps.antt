-- The records that are left from a place on.
use Rattle.std.proofs.Common.{◌≡◌, ℕ, zero, suc, ◌+◌, ◌-◌, ◌<◌, ◌≤◌, Bool, true, false, cond, eqb, List, [], ◌∷◌, ◌++◌, length, take, drop, Result, Ok, Err, refl, sym, ap, subst, ◌∙◌, arith, length-append, length-drop}
use Rattle.std.specs.Prelude.{min, ◌==◌, not, nat_lt, position, Option, Some, None}
use Rattle.std.specs.Option.{unwrap_or}
use Rattle.std.specs.List.{position_or_len}
use Rattle.std.proofs.lemmas.Bool.{eqb-true}
use Rattle.std.proofs.lemmas.Bool.Decides.{nat_tests}
use Rattle.std.proofs.lemmas.List.{take_at, drop_at, drop-drop, drop_all, drop_min}
use Rattle.dc_records.specs.declared.fault.BodyFault.{BodyFault}
use Rattle.dc_records.specs.Body.{Front, ends, skips, gives, front_at}
use Rattle.dc_records.specs.Record.{Entry}
use Rattle.dc_records.proofs.Spellings.Turns.{Left}
use Rattle.mbdc_reading.specs.Codes.{number_of}
use Rattle.mbdc_reading.specs.Content.{Variable, sents_in}
use Rattle.mbdc_reading.specs.Front.{wide_front_at}
use Rattle.mbdc_reading.specs.Reading.{reading_of}
use Rattle.mbdc_reading.specs.Sent.{Sent, Read, with_sent, sent_of, sent_turn, sent_turns, read_at, sent_at}
use Rattle.mbdc_library.specs.Header.{flag}
use Rattle.mbdc_library.specs.declared.plain.PlainRecord.{PlainRecord}
use Rattle.mbdc_library.specs.Plain.{data_place, places_of, plain_record}
use Rattle.mbdc_library.specs.Walk.{IsNextSent, dif_len, fillers, is_item, is_last, sents_left, vib_place}
use Rattle.mbdc_library.proofs.Standing.{Laid, LaidBy, wide_laid}

-- ---- what is left after the front is shorter

left_by : (bytes : List ℕ) (f : Front) → LaidBy bytes f → Left (length bytes) f
left_by bytes (ends end) h = tt
left_by bytes (skips rest) h = omega (arith, ap length h)
left_by bytes (gives e rest) h =
    omega (
      arith,
      ap length h.parts,
      length-append h.head (e.vib ++ (h.mark ++ (e.content ++ rest))),
      length-append e.vib (h.mark ++ (e.content ++ rest)),
      length-append h.mark (e.content ++ rest),
      length-append e.content rest,
      h.head_len,
    )

wide_left : (bytes : List ℕ) (f : Front) → wide_front_at bytes ≡ Ok f → Left (length bytes) f
wide_left bytes f e = left_by bytes f (wide_laid bytes f e)

-- ---- turns enough are as good as more

same_turn : (go on : List ℕ → Read) (bytes : List ℕ) → ((rest : List ℕ) → length rest < length bytes → go rest ≡ on rest) → (r : Result Front BodyFault) → wide_front_at bytes ≡ r
    → sent_turn go bytes r ≡ sent_turn on bytes r
same_turn go on bytes same (Err f) e = refl
same_turn go on bytes same (Ok (ends end)) e = refl
same_turn go on bytes same (Ok (skips rest)) e = same rest (wide_left bytes (skips rest) e)
same_turn go on bytes same (Ok (gives x rest)) e = ap (with_sent (sent_of bytes x rest)) (same rest (wide_left bytes (gives x rest) e))

same_turns : (n m : ℕ) (bytes : List ℕ) → length bytes < n → length bytes < m → sent_turns n bytes ≡ sent_turns m bytes
same_turns zero m bytes h k = absurd (omega arith)
same_turns (suc n) zero bytes h k = absurd (omega arith)
same_turns (suc n) (suc m) bytes h k =
    same_turn (sent_turns n) (sent_turns m) bytes (λ rest s. same_turns n m rest (omega arith) (omega arith)) (wide_front_at bytes) refl

-- what is read, by what stands at the front
read_skips : (bytes rest : List ℕ) → wide_front_at bytes ≡ Ok (skips rest) → read_at bytes ≡ read_at rest
unfolding read_at
read_skips bytes rest e =
    ap (sent_turn (sent_turns (length bytes)) bytes) e ∙ same_turns (length bytes) (suc (length rest)) rest (wide_left bytes (skips rest) e) (omega arith)

read_gives : (bytes rest : List ℕ) (x : Entry) → wide_front_at bytes ≡ Ok (gives x rest) → read_at bytes ≡ with_sent (sent_of bytes x rest) (read_at rest)
unfolding read_at
read_gives bytes rest x e =
    ap (sent_turn (sent_turns (length bytes)) bytes) e
    ∙ ap (with_sent (sent_of bytes x rest)) (same_turns (length bytes) (suc (length rest)) rest (wide_left bytes (gives x rest) e) (omega arith))

read_no_more : (bytes : List ℕ) (r : Result Front BodyFault) → wide_front_at bytes ≡ r → read_at bytes ≡ sent_turn (sent_turns (length bytes)) bytes r
unfolding read_at
read_no_more bytes r e = ap (sent_turn (sent_turns (length bytes)) bytes) e

-- ---- a record, and what is left after it

-- where its parts stand, and that the others are left after them
pub record Step (bytes : List ℕ) (s : Sent) : Type 0 where
  pub some : 0 < vib_place bytes
  pub vib : take (length s.entry.vib) (drop (vib_place bytes) bytes) ≡ s.entry.vib
  pub content : take (length s.entry.content) (drop (data_place (vib_place bytes) s.entry) bytes) ≡ s.entry.content
  pub goes_on : sent_at bytes ≡ s ∷ sent_at (drop (data_place (vib_place bytes) s.entry + length s.entry.content) bytes)
  pub within : data_place (vib_place bytes) s.entry + length s.entry.content ≤ length bytes

-- the place of the block, by the number of fillers
abbrev placed : ℕ → List ℕ → ℕ
placed n bytes = n + dif_len (drop n bytes)

filler_front : (rest : List ℕ) → wide_front_at (0x2F ∷ rest) ≡ Ok (skips rest)
unfolding wide_front_at front_at
filler_front rest = refl

after_filler : (rest : List ℕ) → vib_place (0x2F ∷ rest) ≡ suc (vib_place rest)
after_filler rest =
    let one : fillers (0x2F ∷ rest) ≡ suc (fillers rest) = omega arith in
    ap (λ (n : ℕ). placed n (0x2F ∷ rest)) one ∙ omega arith

filler_step : (rest : List ℕ) (s : Sent) → Step rest s → Step (0x2F ∷ rest) s
filler_step rest s step =
    let moved = after_filler rest in
    let moved_data : data_place (vib_place (0x2F ∷ rest)) s.entry ≡ suc (data_place (vib_place rest) s.entry) = omega (arith, moved) in
    let next : data_place (vib_place (0x2F ∷ rest)) s.entry + length s.entry.content ≡ suc (data_place (vib_place rest) s.entry + length s.entry.content) = omega (arith, moved_data) in
    record {
      some = omega (arith, moved);
      vib = ap (λ (k : ℕ). take (length s.entry.vib) (drop k (0x2F ∷ rest))) moved ∙ step.vib;
      content = ap (λ (k : ℕ). take (length s.entry.content) (drop k (0x2F ∷ rest))) moved_data ∙ step.content;
      goes_on = ap (λ (r : Read). r.0) (read_skips (0x2F ∷ rest) rest (filler_front rest)) ∙ step.goes_on
          ∙ sym (ap (λ (k : ℕ). s ∷ sent_at (drop k (0x2F ∷ rest))) next);
      within = omega (arith, next, step.within);
    }

laid_step : (bytes rest : List ℕ) (e : Entry) → fillers bytes ≡ 0 → wide_front_at bytes ≡ Ok (gives e rest) → Laid bytes e rest → Step bytes (sent_of bytes e rest)
laid_step bytes rest e none front h =
    let place : vib_place bytes ≡ dif_len bytes = ap (λ (n : ℕ). placed n bytes) none ∙ omega arith in
    let v : ℕ = vib_place bytes in
    let head_len : length h.head ≡ v = omega (arith, h.head_len, place) in
    let at_vib : drop v bytes ≡ e.vib ++ (h.mark ++ (e.content ++ rest)) =
    ap (λ (l : List ℕ). drop v l) h.parts ∙ drop_at h.head (e.vib ++ (h.mark ++ (e.content ++ rest))) v head_len in
    let at_mark : drop (v + length e.vib) bytes ≡ h.mark ++ (e.content ++ rest) =
    sym (drop-drop (length e.vib) v bytes) ∙ ap (λ (l : List ℕ). drop (length e.vib) l) at_vib
    ∙ drop_at e.vib (h.mark ++ (e.content ++ rest)) (length e.vib) refl in
    let at_data : drop (data_place v e) bytes ≡ e.content ++ rest =
    sym (drop-drop (flag (e.field == 0xD)) (v + length e.vib) bytes) ∙ ap (λ (l : List ℕ). drop (flag (e.field == 0xD)) l) at_mark
    ∙ drop_at h.mark (e.content ++ rest) (flag (e.field == 0xD)) h.mark_len in
    let at_rest : drop (data_place v e + length e.content) bytes ≡ rest =
    sym (drop-drop (length e.content) (data_place v e) bytes) ∙ ap (λ (l : List ℕ). drop (length e.content) l) at_data
    ∙ drop_at e.content rest (length e.content) refl in
    record {
      some = omega (arith, place);
      vib = ap (λ (l : List ℕ). take (length e.vib) l) at_vib ∙ take_at e.vib (h.mark ++ (e.content ++ rest)) (length e.vib) refl;
      content = ap (λ (l : List ℕ). take (length e.content) l) at_data ∙ take_at e.content rest (length e.content) refl;
      goes_on = ap (λ (r : Read). r.0) (read_gives bytes rest e front) ∙ sym (ap (λ (l : List ℕ). sent_of bytes e rest ∷ sent_at l) at_rest);
      within = omega (
        arith,
        ap length h.parts,
        length-append h.head (e.vib ++ (h.mark ++ (e.content ++ rest))),
        length-append e.vib (h.mark ++ (e.content ++ rest)),
        length-append h.mark (e.content ++ rest),
        length-append e.content rest,
        head_len,
        h.mark_len,
      );
    }

first_of : (s t : Sent) (ss ts : List Sent) → s ∷ ss ≡ t ∷ ts → s ≡ t
first_of s t ss ts e = cc

none_first : (s : Sent) (ss : List Sent) → [] ≡ s ∷ ss → ⊥
none_first s ss e = absurd cc

-- a byte that is no filler: what stands at the front
by_front : (b : ℕ) (bytes : List ℕ) (s : Sent) (ss : List Sent) → eqb b 0x2F ≡ false → sent_at (b ∷ bytes) ≡ s ∷ ss → (r : Result Front BodyFault) → wide_front_at (b ∷ bytes) ≡ r
    → Step (b ∷ bytes) s
by_front b bytes s ss other e (Err f) front =
    absurd (none_first s ss (sym (ap (λ (x : Read). x.0) (read_no_more (b ∷ bytes) (Err f) front)) ∙ e))
by_front b bytes s ss other e (Ok (ends end)) front =
    absurd (none_first s ss (sym (ap (λ (x : Read). x.0) (read_no_more (b ∷ bytes) (Ok (ends end)) front)) ∙ e))
by_front b bytes s ss other e (Ok (skips rest)) front =
    let is : b ∷ bytes ≡ 0x2F ∷ rest = wide_laid (b ∷ bytes) (skips rest) front in
    let same : b ≡ 0x2F = cc in
    absurd (grind (arith, nat_tests, other, same))
by_front b bytes s ss other e (Ok (gives x rest)) front =
    let none : fillers (b ∷ bytes) ≡ 0 = rw other refl in
    let step = laid_step (b ∷ bytes) rest x none front (wide_laid (b ∷ bytes) (gives x rest) front) in
    let same : sent_of (b ∷ bytes) x rest ≡ s = first_of (sent_of (b ∷ bytes) x rest) s (sent_at rest) ss (sym (ap (λ (y : Read). y.0) (read_gives (b ∷ bytes) rest x front)) ∙ e) in
    subst (λ (t : Sent). Step (b ∷ bytes) t) same step

by_filler : (b : ℕ) (bytes : List ℕ) (s : Sent) (ss : List Sent) → sent_at (b ∷ bytes) ≡ s ∷ ss → (sent_at bytes ≡ s ∷ ss → Step bytes s) → (filler : Bool) → eqb b 0x2F ≡ filler → Step (b ∷ bytes) s
by_filler b bytes s ss e others false other = by_front b bytes s ss other e (wide_front_at (b ∷ bytes)) refl
by_filler b bytes s ss e others true is =
    let same : b ≡ 0x2F = eqb-true _ _ is in
    let there : sent_at (0x2F ∷ bytes) ≡ s ∷ ss = subst (λ (c : ℕ). sent_at (c ∷ bytes) ≡ s ∷ ss) same e in
    let left : sent_at bytes ≡ s ∷ ss = sym (ap (λ (r : Read). r.0) (read_skips (0x2F ∷ bytes) bytes (filler_front bytes))) ∙ there in
    subst (λ (c : ℕ). Step (c ∷ bytes) s) (sym same) (filler_step bytes s (others left))

none_sent : sent_at [] ≡ []
unfolding read_at wide_front_at front_at
none_sent = refl

pub step : (bytes : List ℕ) (s : Sent) (ss : List Sent) → sent_at bytes ≡ s ∷ ss → Step bytes s
step [] s ss e = absurd (none_first s ss (sym none_sent ∙ e))
step (b ∷ bytes) s ss e = by_filler b bytes s ss e (step bytes s ss) (eqb b 0x2F) refl

-- ---- in a body

-- the same from a place of a body on
pub record Next (body : List ℕ) (at vib : ℕ) (s : Sent) : Type 0 where
  pub vib_is : take (length s.entry.vib) (drop vib body) ≡ s.entry.vib
  pub content_is : take (length s.entry.content) (drop (data_place vib s.entry) body) ≡ s.entry.content
  pub goes_on : sent_at (drop at body) ≡ s ∷ sent_at (drop (data_place vib s.entry + length s.entry.content) body)
  pub on : at < data_place vib s.entry + length s.entry.content
  pub within : data_place vib s.entry + length s.entry.content ≤ length body

pub next_of : (body : List ℕ) (at from vib : ℕ) (s : Sent) (ss : List Sent) → from ≡ min at (length body) → vib ≡ from + vib_place (drop from body) → sent_at (drop from body) ≡ s ∷ ss → Next body at vib s
next_of body at from vib s ss is placed_at e =
    let bytes : List ℕ = drop from body in
    let st = step bytes s ss e in
    let size : length bytes ≡ length body - from = length-drop from body in
    let there : from ≡ at = omega (arith, st.within, st.some) in
    let moved_data : data_place vib s.entry ≡ from + data_place (vib_place bytes) s.entry = omega (arith, placed_at) in
    let next : data_place vib s.entry + length s.entry.content ≡ from + (data_place (vib_place bytes) s.entry + length s.entry.content) = omega (arith, moved_data) in
    record {
      vib_is = ap (λ (k : ℕ). take (length s.entry.vib) (drop k body)) placed_at
          ∙ ap (λ (l : List ℕ). take (length s.entry.vib) l) (sym (drop-drop (vib_place bytes) from body)) ∙ st.vib;
      content_is = ap (λ (k : ℕ). take (length s.entry.content) (drop k body)) moved_data
          ∙ ap (λ (l : List ℕ). take (length s.entry.content) l) (sym (drop-drop (data_place (vib_place bytes) s.entry) from body)) ∙ st.content;
      goes_on = ap (λ (k : ℕ). sent_at (drop k body)) (sym there) ∙ st.goes_on
          ∙ ap (λ (l : List ℕ). s ∷ sent_at l) (drop-drop (data_place (vib_place bytes) s.entry + length s.entry.content) from body)
          ∙ sym (ap (λ (k : ℕ). s ∷ sent_at (drop k body)) next);
      on = omega (arith, next, there, st.some);
      within = omega (arith, next, size, st.within, is);
    }

-- ---- as the code finds its places

pos_found : (p : ℕ → Bool) (xs : List ℕ) → position_or_len p xs < length xs → unwrap_or (position p xs) 0 ≡ position_or_len p xs
pos_found p xs h = let yes : nat_lt (position_or_len p xs) (length xs) ≡ true = grind (arith, nat_tests) in rw yes refl

pub found_at : (body after unfilled : List ℕ) (at from k d : ℕ) (fi ld : Option ℕ) (s : Sent) (ss : List Sent) → from ≡ min at (length body) → after ≡ drop from body
    → fi ≡ position is_item after → k ≡ unwrap_or fi 0 → unfilled ≡ drop k after → ld ≡ position is_last unfilled → d ≡ unwrap_or ld 0 → sent_at after ≡ s ∷ ss
    → Next body at (length body - length unfilled + d + 1) s
found_at body after unfilled at from k d fi ld s ss from_is after_is fi_is k_is unfilled_is ld_is d_is e =
    let st = step after s ss e in
    let some : fillers after < length after = omega (arith, st.within) in
    let k_at : k ≡ fillers after = k_is ∙ ap (λ (o : Option ℕ). unwrap_or o 0) fi_is ∙ pos_found is_item after some in
    let rest : List ℕ = drop (fillers after) after in
    let unfilled_at : unfilled ≡ rest = unfilled_is ∙ ap (λ (n : ℕ). drop n after) k_at in
    let left : length rest ≡ length after - fillers after = length-drop (fillers after) after in
    let last : position_or_len is_last rest < length rest = omega (arith, st.within, left) in
    let d_at : d ≡ position_or_len is_last rest =
    d_is ∙ ap (λ (o : Option ℕ). unwrap_or o 0) (ld_is ∙ ap (λ (l : List ℕ). position is_last l) unfilled_at) ∙ pos_found is_last rest last in
    let size : length after ≡ length body - from = ap length after_is ∙ length-drop from body in
    let vib : length body - length unfilled + d + 1 ≡ from + vib_place after = omega (arith, ap length unfilled_at, left, d_at, size, some, from_is) in
    next_of body at from (length body - length unfilled + d + 1) s ss from_is (vib ∙ ap (λ (l : List ℕ). from + vib_place l) after_is)
    (subst (λ (l : List ℕ). sent_at l ≡ s ∷ ss) after_is e)

pub sents_some : (after : List ℕ) (refused : Option BodyFault) (s : Sent) (ss : List Sent) → sents_in after refused ≡ s ∷ ss → (sent_at after ≡ s ∷ ss) × (refused ≡ None)
sents_some after None s ss e = (e, refl)
sents_some after (Some f) s ss e = absurd (none_first s ss e)

pub next_shown : (v : Variable) (body : List ℕ) (at vib : ℕ) (s : Sent) (p : PlainRecord) → v.refused ≡ None → Next body at vib s
    → p ≡ plain_record s.entry s.len (number_of s.entry.vib) (reading_of s.entry s.len) (places_of at vib s.entry) → IsNextSent v body at p
next_shown v body at vib s p none n is =
    let first : sents_left v body at ≡ s ∷ sents_left v body (data_place vib s.entry + length s.entry.content) =
    ap (λ (r : Option BodyFault). sents_in (drop at body) r) none ∙ n.goes_on
    ∙ sym (ap (λ (r : Option BodyFault). s ∷ sents_in (drop (data_place vib s.entry + length s.entry.content) body) r) none) in
    subst (IsNextSent v body at) (sym is) (s, first, (refl, n.vib_is, n.content_is), refl)
