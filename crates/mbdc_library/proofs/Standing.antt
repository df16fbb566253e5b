-- Where the parts of a record stand.
use Rattle.std.proofs.Common.{◌≡◌, ℕ, suc, ◌+◌, ◌%◌, ◌<◌, ◌≤◌, Bool, true, false, ltb, eqb, List, [], ◌∷◌, ◌++◌, length, take, drop, Result, Ok, Err, refl, sym, ap, subst, ◌∙◌, append_assoc, add-one, arith, inl, inr, length-append, take-append-drop}
use Rattle.std.specs.Prelude.{nat_lt, ◌==◌}
use Rattle.std.specs.List.{position_or_len}
use Rattle.std.proofs.lemmas.Bool.{eqb-true, le-ltb}
use Rattle.std.proofs.lemmas.Bool.Decides.{nat_tests}
use Rattle.dc_records.specs.declared.fault.BodyFault.{BodyFault}
use Rattle.dc_records.specs.declared.fault.BodyFault.TheVariants as fault
use Rattle.dc_records.specs.Body.{plain, last, more, Front, ends, skips, gives, front_at}
use Rattle.dc_records.specs.Record.{Entry, Extends, IsData}
use Rattle.dc_records.specs.Reading.{◌>>=◌, chain_len, data_at, entry_of, record_at}
use Rattle.dc_records.proofs.Spellings.Fields.{bind_ok, chosen, chain_takes, data_takes, ok_is, record_takes}
use Rattle.mbdc_reading.specs.Front.{text_vib_len, text_record_at, or_text, wide_front_at}
use Rattle.mbdc_library.specs.Header.{flag}
use Rattle.mbdc_library.specs.Walk.{dif_len}

-- a record: its DIF and DIFEs, its block, a length byte or none, its data, and what follows
pub record Laid (bytes : List ℕ) (e : Entry) (rest : List ℕ) : Type 0 where
  pub head : List ℕ
  pub mark : List ℕ
  pub parts : bytes ≡ head ++ (e.vib ++ (mark ++ (e.content ++ rest)))
  pub head_len : length head ≡ dif_len bytes
  pub mark_len : length mark ≡ flag (e.field == 0xD)

-- ---- the DIF and its DIFEs

difes_end : (dif : ℕ) (difes others : List ℕ) → Extends dif difes → position_or_len (λ b. nat_lt b 0x80) (dif ∷ (difes ++ others)) ≡ length difes
difes_end dif [] others h = let yes : ltb dif 0x80 ≡ true = grind (arith, nat_tests) in rw yes refl
difes_end dif (next ∷ difes) others h = rw (le-ltb _ _ h.0) (omega (arith, difes_end next difes others h.1))

-- ---- the length byte

record Marked (field : ℕ) (sent content : List ℕ) : Type 0 where
  mark : List ℕ
  parts : sent ≡ mark ++ content
  len : length mark ≡ flag (field == 0xD)

marked : (field : ℕ) (sent content : List ℕ) → IsData field sent content → Marked field sent content
marked field sent content (inl h) =
    let yes : eqb field 0xD ≡ true = grind (arith, nat_tests, h.0) in
    record { mark = h.1.byte ∷ []; parts = h.1.parts; len = sym (ap flag yes) }
marked field sent content (inr h) =
    let no : eqb field 0xD ≡ false = grind (arith, nat_tests, h.0) in
    record { mark = []; parts = h.1; len = sym (ap flag no) }

-- ---- records

laid : (bytes rest difes sent : List ℕ) (dif : ℕ) (e : Entry) → Extends dif difes → IsData e.field sent e.content
    → bytes ≡ dif ∷ (difes ++ (e.vib ++ (sent ++ rest))) → Laid bytes e rest
laid bytes rest difes sent dif e extends data_of is =
    let m = marked e.field sent e.content data_of in
    let all : bytes ≡ (dif ∷ difes) ++ (e.vib ++ (m.mark ++ (e.content ++ rest))) =
    is ∙ ap (λ (l : List ℕ). dif ∷ (difes ++ (e.vib ++ (l ++ rest)))) m.parts
    ∙ ap (λ (l : List ℕ). dif ∷ (difes ++ (e.vib ++ l))) (append_assoc m.mark e.content rest) in
    record {
      head = dif ∷ difes;
      mark = m.mark;
      parts = all;
      head_len = sym (ap dif_len is ∙ ap (λ (k : ℕ). k + 1) (difes_end dif difes (e.vib ++ (sent ++ rest)) extends) ∙ add-one (length difes));
      mark_len = m.len;
    }

record_laid : (bytes : List ℕ) (x : Entry × List ℕ) → record_at bytes ≡ Ok x → Laid bytes x.0 x.1
record_laid bytes x e =
    let t = record_takes bytes x e in
    let s = t.spells in
    laid bytes x.1 s.difes s.sent s.dif x.0 s.extends s.data_of (t.parts ∙ ap (λ (l : List ℕ). l ++ x.1) s.parts ∙ ap (λ (l : List ℕ). s.dif ∷ l) (simp append_assoc))

abbrev given : ℕ → List ℕ → ℕ → ℕ → List ℕ × List ℕ → Entry × List ℕ
given dif bytes difes vib c = (entry_of dif (take difes bytes) (take vib (drop difes bytes)) c.0, c.1)

abbrev last_step : ℕ → List ℕ → ℕ → ℕ → List ℕ × List ℕ → Result (Entry × List ℕ) BodyFault
last_step dif bytes difes vib c = Ok (given dif bytes difes vib c)

abbrev data_step : ℕ → List ℕ → ℕ → ℕ → Result (Entry × List ℕ) BodyFault
data_step dif bytes difes vib = data_at (dif % 16) (drop vib (drop difes bytes)) >>= last_step dif bytes difes vib

abbrev vib_step : ℕ → List ℕ → ℕ → Result (Entry × List ℕ) BodyFault
vib_step dif bytes difes = text_vib_len (drop difes bytes) >>= data_step dif bytes difes

text_laid : (bytes : List ℕ) (x : Entry × List ℕ) → text_record_at bytes ≡ Ok x → Laid bytes x.0 x.1
unfolding text_record_at
text_laid [] x e = absurd cc
text_laid (dif ∷ bytes) x e =
    let a = bind_ok (chain_len fault.TooManyDife 10 dif bytes) (vib_step dif bytes) x e in
    let b = bind_ok (text_vib_len (drop a.0 bytes)) (data_step dif bytes a.0) x a.2 in
    let c = bind_ok (data_at (dif % 16) (drop b.0 (drop a.0 bytes))) (last_step dif bytes a.0 b.0) x b.2 in
    let ta = chain_takes fault.TooManyDife 10 dif a.0 bytes a.1 in
    let tc = data_takes (dif % 16) (drop b.0 (drop a.0 bytes)) c.0 c.1 in
    let difes = take a.0 bytes in
    let vib = take b.0 (drop a.0 bytes) in
    let at_c : drop a.0 bytes ≡ vib ++ (tc.sent ++ c.0.1) = sym (take-append-drop b.0 (drop a.0 bytes)) ∙ ap (λ (l : List ℕ). vib ++ l) tc.parts in
    let at_b : bytes ≡ difes ++ (vib ++ (tc.sent ++ c.0.1)) = sym (take-append-drop a.0 bytes) ∙ ap (λ (l : List ℕ). difes ++ l) at_c in
    let one : Laid (dif ∷ bytes) (entry_of dif difes vib c.0.0) c.0.1 =
    laid (dif ∷ bytes) c.0.1 difes tc.sent dif (entry_of dif difes vib c.0.0) ta.extends tc.is (ap (λ (l : List ℕ). dif ∷ l) at_b) in
    subst (λ (y : Entry × List ℕ). Laid (dif ∷ bytes) y.0 y.1) (ok_is _ x c.2) one

-- ---- the front

abbrev pub LaidBy : List ℕ → Front → Type 0
LaidBy bytes (ends end) = Unit {0}
LaidBy bytes (skips rest) = bytes ≡ 0x2F ∷ rest
LaidBy bytes (gives e rest) = Laid bytes e rest

front_laid : (bytes : List ℕ) (f : Front) → front_at bytes ≡ Ok f → LaidBy bytes f
unfolding front_at
front_laid [] f e = subst (LaidBy []) (ok_is (ends plain) f e) tt
front_laid (b ∷ rest) f e =
    elim (chosen (eqb b 0x0F) _ _ (Ok f) e) [
      | inl p ↦ subst (LaidBy (b ∷ rest)) (ok_is (ends (last rest)) f p.1) tt
      | inr p ↦
          elim (chosen (eqb b 0x1F) _ _ (Ok f) p.1) [
            | inl q ↦ subst (LaidBy (b ∷ rest)) (ok_is (ends (more rest)) f q.1) tt
            | inr q ↦
                elim (chosen (eqb b 0x2F) _ _ (Ok f) q.1) [
                  | inl r ↦ subst (LaidBy (b ∷ rest)) (ok_is (skips rest) f r.1) (ap (λ (v : ℕ). v ∷ rest) (eqb-true _ _ r.0))
                  | inr r ↦
                      let x = bind_ok (record_at (b ∷ rest)) (λ x. Ok (gives x.0 x.1)) f r.1 in
                      subst (LaidBy (b ∷ rest)) (ok_is (gives x.0.0 x.0.1) f x.2) (record_laid (b ∷ rest) x.0 x.1)
                ]
          ]
    ]

text_front : (bytes : List ℕ) (f : Front) → (text_record_at bytes >>= λ x. Ok (gives x.0 x.1)) ≡ Ok f → LaidBy bytes f
text_front bytes f e =
    let x = bind_ok (text_record_at bytes) (λ x. Ok (gives x.0 x.1)) f e in
    subst (LaidBy bytes) (ok_is (gives x.0.0 x.0.1) f x.2) (text_laid bytes x.0 x.1)

or_laid : (bytes : List ℕ) (r : Result Front BodyFault) (f : Front) → front_at bytes ≡ r → or_text bytes r ≡ Ok f → LaidBy bytes f
or_laid bytes (Ok found) f e h = subst (LaidBy bytes) (ok_is found f h) (front_laid bytes found e)
or_laid bytes (Err fault.PlainTextExtension) f e h = text_front bytes f h
or_laid bytes (Err fault.Short) f e h = absurd cc
or_laid bytes (Err fault.BadIdentity) f e h = absurd cc
or_laid bytes (Err fault.Encrypted) f e h = absurd cc
or_laid bytes (Err fault.ReservedDif) f e h = absurd cc
or_laid bytes (Err fault.TooManyDife) f e h = absurd cc
or_laid bytes (Err fault.TooManyVife) f e h = absurd cc
or_laid bytes (Err fault.BadLength) f e h = absurd cc
or_laid bytes (Err fault.Cut) f e h = absurd cc

pub wide_laid : (bytes : List ℕ) (f : Front) → wide_front_at bytes ≡ Ok f → LaidBy bytes f
unfolding wide_front_at
wide_laid bytes f e = or_laid bytes (front_at bytes) f refl e
