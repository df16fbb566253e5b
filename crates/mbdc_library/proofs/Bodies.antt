-- A CI byte above 255 is that of no structure, and a walk from the first record on is over all records.
use Rattle.std.proofs.Common.{◌≡◌, ℕ, ◌≤◌, Bool, true, false, eqb, List, [], ◌∷◌, drop, map, refl, sym, ap, subst, ◌∙◌, arith, inl, inr}
use Rattle.std.specs.Prelude.{min, nat_lt, Option, Some, None}
use Rattle.std.proofs.lemmas.Bool.{ltb-true, ltb-false}
use Rattle.std.proofs.lemmas.Bool.Decides.{nat_tests}
use Rattle.dc_records.proofs.Spellings.Fields.{chosen}
use Rattle.mbdc_reading.specs.Content.{Content, Variable, variable, fixed, content_of, long_header, short_header, no_header, sents_in}
use Rattle.mbdc_reading.specs.Fixed.{Fixed, fixed_at}
use Rattle.mbdc_reading.specs.Sent.{Sent}
use Rattle.mbdc_library.specs.declared.plain.Places.{Places}
use Rattle.mbdc_library.specs.declared.plain.PlainRecord.{PlainRecord}
use Rattle.mbdc_library.specs.Header.{first_of}
use Rattle.mbdc_library.specs.Walk.{IsNext, IsNextCounter, IsNextSent, content_left, content_result, first_place, item_of, items_of, left, left_result}

narrow_if : (ci : ℕ) (body : List ℕ) (small : Bool) → nat_lt ci 256 ≡ small → content_of (min ci 255) body ≡ content_of ci body
unfolding content_of
narrow_if ci body true e = let same : min ci 255 ≡ ci = omega (arith, ltb-true ci 256 e) in ap (λ (k : ℕ). content_of k body) same
narrow_if ci body false e =
    let large : 256 ≤ ci = ltb-false ci 256 e in
    let most : min ci 255 ≡ 255 = omega arith in
    let none : content_of ci body ≡ None = grind (arith, nat_tests) in
    ap (λ (k : ℕ). content_of k body) most ∙ sym none

pub narrow : (ci : ℕ) (body : List ℕ) → content_of (min ci 255) body ≡ content_of ci body
narrow ci body = narrow_if ci body (nat_lt ci 256) refl

-- ---- the first record

is_variable : (v w : Variable) → Some (variable v) ≡ Some (variable w) → v ≡ w
is_variable v w e = cc

-- the bytes after a header
abbrev Begins : List ℕ → Variable → Type 0
Begins body v = v.after ≡ drop (first_of v.structure) body

begins : (ci : ℕ) (body : List ℕ) (v : Variable) → content_of ci body ≡ Some (variable v) → Begins body v
unfolding content_of
begins ci body v e =
    elim (chosen (eqb ci 0x72) _ _ (Some (variable v)) e) [
      | inl p ↦ subst (Begins body) (is_variable (long_header body) v p.1) refl
      | inr p ↦
          elim (chosen (eqb ci 0x73) _ _ (Some (variable v)) p.1) [
            | inl q ↦ absurd (let other = q.1 in cc)
            | inr q ↦
                elim (chosen (eqb ci 0x78) _ _ (Some (variable v)) q.1) [
                  | inl r ↦ subst (Begins body) (is_variable (no_header body) v r.1) refl
                  | inr r ↦
                      elim (chosen (eqb ci 0x7A) _ _ (Some (variable v)) r.1) [
                        | inl s ↦ subst (Begins body) (is_variable (short_header body) v s.1) refl
                        | inr s ↦ absurd (let other = s.1 in cc)
                      ]
                ]
          ]
    ]

pub all_left : (ci : ℕ) (body : List ℕ) (content : Content) → content_of ci body ≡ Some content → content_left (Some content) body (first_place content) ≡ items_of content body
all_left ci body (variable v) e =
    ap (λ (bytes : List ℕ). map item_of (sents_in bytes v.refused)) (sym (begins ci body v e))
all_left ci body (fixed None) e = refl
all_left ci body (fixed (Some f)) e = refl

is_fixed : (o w : Option Fixed) → Some (fixed o) ≡ Some (fixed w) → o ≡ w
is_fixed o w e = cc

pub fixed_there : (ci : ℕ) (body : List ℕ) (o : Option Fixed) → content_of ci body ≡ Some (fixed o) → fixed_at body ≡ o
unfolding content_of
fixed_there ci body o e =
    elim (chosen (eqb ci 0x72) _ _ (Some (fixed o)) e) [
      | inl p ↦ absurd (let other = p.1 in cc)
      | inr p ↦
          elim (chosen (eqb ci 0x73) _ _ (Some (fixed o)) p.1) [
            | inl q ↦ is_fixed (fixed_at body) o q.1
            | inr q ↦
                elim (chosen (eqb ci 0x78) _ _ (Some (fixed o)) q.1) [
                  | inl r ↦ absurd (let other = r.1 in cc)
                  | inr r ↦
                      elim (chosen (eqb ci 0x7A) _ _ (Some (fixed o)) r.1) [
                        | inl s ↦ absurd (let other = s.1 in cc)
                        | inr s ↦ absurd (let other = s.1 in cc)
                      ]
                ]
          ]
    ]

-- ---- what comes next

pub sent_is_next : (ci : ℕ) (body : List ℕ) (at : ℕ) (v : Variable) (p : PlainRecord) → content_of ci body ≡ Some (variable v) → IsNextSent v body at p → IsNext ci body at p
sent_is_next ci body at v p is n = (
  item_of n.0,
  ap (λ (c : Option Content). content_left c body at) is ∙ ap (λ (ss : List Sent). map item_of ss) n.1
      ∙ sym (ap (λ (c : Option Content). item_of n.0 ∷ content_left c body p.places.next) is),
  n.2,
  ap (λ (q : Places). q.at) n.3,
)

pub counter_is_next : (ci : ℕ) (body : List ℕ) (at : ℕ) (f : Fixed) (p : PlainRecord) → content_of ci body ≡ Some (fixed (Some f)) → IsNextCounter f body at p → IsNext ci body at p
counter_is_next ci body at f p is n = (
  n.0,
  ap (λ (c : Option Content). content_left c body at) is ∙ n.1 ∙ sym (ap (λ (c : Option Content). n.0 ∷ content_left c body p.places.next) is),
  n.2,
  n.3,
)

pub none_is_left : (ci : ℕ) (body : List ℕ) (at result : ℕ) (c : Option Content) → content_of ci body ≡ c → content_left c body at ≡ [] → result ≡ content_result c body at
    → (left ci body at ≡ []) × (result ≡ left_result ci body at)
none_is_left ci body at result c is none e =
    (ap (λ (d : Option Content). content_left d body at) is ∙ none, e ∙ sym (ap (λ (d : Option Content). content_result d body at) is))

-- the record that comes next, or none
pub ruleset next_record = (narrow, fixed_there, sent_is_next, counter_is_next, none_is_left)
