use Rattle.std.proofs.Common.{◌≡◌, ◌==◌, Bool, true, false, ℕ, List, [], refl, ap, sym, ◌∙◌, arith, length}
use Rattle.csv.specs.Records.{fields_of}
use Rattle.mbdc_fit.proofs.Listings.{of_all}
use Rattle.mbdc_fit.proofs.list.listed.is_blank.Goals as goal

pub returns : goal.returns
returns c = (λ yes. of_all (fields_of c.args.fields.now) (λ field. field ≡ []) c.places.place (omega (arith, c.places-test.false, c.len-place-end.ensures)) c.places.invariant refl, λ all. refl)

pub returns-then-not-is_empty : goal.returns-then-not-is_empty
returns-then-not-is_empty c = (
  λ yes. absurd (let bad : false ≡ true = yes in cc),
  λ all.
      let none : (length c.field_in.result.now == 0) ≡ true = ap (λ (xs : List ℕ). length xs == 0) (c.field_in.ensures ∙ all c.places.place) in
      absurd (let bad : false ≡ true = sym c.if-not-is_empty.true ∙ c.is_empty.ensures ∙ none in cc),
)
