-- What stands at the front, and what is read then.
use Rattle.std.proofs.Common.{◌≡◌, ℕ, zero, suc, ◌<◌, ◌≤◌, eqb, List, [], ◌∷◌, length, Result, Ok, Err, refl, ap, subst, ◌∙◌, arith, inl, inr, length-append}
use Rattle.dc_records.specs.declared.fault.BodyFault.{BodyFault}
use Rattle.dc_records.specs.Record.{Entry}
use Rattle.dc_records.specs.Reading.{record_at}
use Rattle.dc_records.specs.Body.{Ending, plain, last, more, Front, ends, skips, gives, front_at, with_record, turns, after, content_at, Reads, records_in}
use Rattle.std.specs.Prelude.{MatchResult}
use Rattle.dc_records.specs.Reading.{Gives}
use Rattle.dc_records.specs.Seen.{front}
use Rattle.dc_records.specs.declared.front.Front as code
use Rattle.dc_records.proofs.Spellings.Fields.{bind_ok, chosen, ok_is, record_takes}

pub record_shorter : (bytes : List ℕ) (x : Entry × List ℕ) → record_at bytes ≡ Ok x → length x.1 < length bytes
record_shorter bytes x e =
    let t = record_takes bytes x e in
    omega (arith, ap length t.parts, length-append t.text x.1, ap length t.spells.parts)

-- what is left after the front
abbrev pub Left : ℕ → Front → Type 0
Left n (ends end) = Unit {0}
Left n (skips rest) = length rest < n
Left n (gives e rest) = length rest < n

front_shorter : (bytes : List ℕ) (f : Front) → front_at bytes ≡ Ok f → Left (length bytes) f
unfolding front_at
front_shorter [] f e = subst (Left 0) (ok_is (ends plain) f e) tt
front_shorter (b ∷ rest) f e =
    elim (chosen (eqb b 0x0F) _ _ (Ok f) e) [
      | inl p ↦ subst (Left (suc (length rest))) (ok_is (ends (last rest)) f p.1) tt
      | inr p ↦
          elim (chosen (eqb b 0x1F) _ _ (Ok f) p.1) [
            | inl q ↦ subst (Left (suc (length rest))) (ok_is (ends (more rest)) f q.1) tt
            | inr q ↦
                elim (chosen (eqb b 0x2F) _ _ (Ok f) q.1) [
                  | inl r ↦ subst (Left (suc (length rest))) (ok_is (skips rest) f r.1) (omega arith)
                  | inr r ↦
                      let x = bind_ok (record_at (b ∷ rest)) (λ x. Ok (gives x.0 x.1)) f r.1 in
                      subst (Left (suc (length rest))) (ok_is (gives x.0.0 x.0.1) f x.2) (record_shorter (b ∷ rest) x.0 x.1)
                ]
          ]
    ]

-- turns enough are as good as more
same_after : (go on : List ℕ → Result (List Entry × Ending) BodyFault) (bytes : List ℕ) → ((rest : List ℕ) → length rest < length bytes → go rest ≡ on rest) → (r : Result Front BodyFault) → front_at bytes ≡ r → after go r ≡ after on r
same_after go on bytes same (Err f) e = refl
same_after go on bytes same (Ok (ends end)) e = refl
same_after go on bytes same (Ok (skips rest)) e = same rest (front_shorter bytes (skips rest) e)
same_after go on bytes same (Ok (gives x rest)) e = ap (with_record x) (same rest (front_shorter bytes (gives x rest) e))

pub same_turns : (n m : ℕ) (bytes : List ℕ) → length bytes < n → length bytes < m → turns n bytes ≡ turns m bytes
same_turns zero m bytes h k = absurd (omega arith)
same_turns (suc n) zero bytes h k = absurd (omega arith)
same_turns (suc n) (suc m) bytes h k = same_after (turns n) (turns m) bytes (λ rest s. same_turns n m rest (omega arith) (omega arith)) (front_at bytes) refl

pub reads_front : (bytes : List ℕ) (f : Front) → front_at bytes ≡ Ok f → Reads bytes f
unfolding content_at
reads_front bytes (ends end) e = ap (after (turns (length bytes))) e
reads_front bytes (skips rest) e =
    let s = front_shorter bytes (skips rest) e in
    (ap (after (turns (length bytes))) e ∙ same_turns (length bytes) (suc (length rest)) rest s (omega arith), s)
reads_front bytes (gives x rest) e =
    let s = front_shorter bytes (gives x rest) e in
    (ap (after (turns (length bytes))) e ∙ ap (with_record x) (same_turns (length bytes) (suc (length rest)) rest s (omega arith)), s)

pub reads_fault : (bytes : List ℕ) (f : BodyFault) → front_at bytes ≡ Err f → content_at bytes ≡ Err f
unfolding content_at
reads_fault bytes f e = ap (after (turns (length bytes))) e

pub reads_given : (bytes : List ℕ) (r : Result code.Front BodyFault) → Gives front r (front_at bytes) → MatchResult r (λ f. Reads bytes (front f)) (λ f. content_at bytes ≡ Err f)
reads_given bytes (Ok f) e = reads_front bytes (front f) e
reads_given bytes (Err f) e = reads_fault bytes f e

-- there are no more records than bytes
with_record_length : (e : Entry) (r : Result (List Entry × Ending) BodyFault) → length (records_in (with_record e r)) ≤ suc (length (records_in r))
with_record_length e (Ok x) = omega arith
with_record_length e (Err f) = omega arith

fewer_after : (go : List ℕ → Result (List Entry × Ending) BodyFault) (bytes : List ℕ) → ((rest : List ℕ) → length rest < length bytes → length (records_in (go rest)) ≤ length rest) → (r : Result Front BodyFault) → front_at bytes ≡ r → length (records_in (after go r)) ≤ length bytes
fewer_after go bytes few (Err f) e = omega arith
fewer_after go bytes few (Ok (ends end)) e = omega arith
fewer_after go bytes few (Ok (skips rest)) e = let s = front_shorter bytes (skips rest) e in omega (arith, few rest s)
fewer_after go bytes few (Ok (gives x rest)) e = let s = front_shorter bytes (gives x rest) e in omega (arith, few rest s, with_record_length x (go rest))

fewer_turns : (n : ℕ) (bytes : List ℕ) → length bytes < n → length (records_in (turns n bytes)) ≤ length bytes
fewer_turns zero bytes h = absurd (omega arith)
fewer_turns (suc n) bytes h = fewer_after (turns n) bytes (λ rest s. fewer_turns n rest (omega arith)) (front_at bytes) refl

pub fewer_records : (bytes : List ℕ) → length (records_in (content_at bytes)) ≤ length bytes
unfolding content_at
fewer_records bytes = fewer_turns (suc (length bytes)) bytes (omega arith)
