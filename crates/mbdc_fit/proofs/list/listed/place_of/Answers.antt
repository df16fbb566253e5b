use Rattle.std.proofs.Common.{◌≡◌, ◌∙◌, true, false, ℕ, List, refl, arith, length, subst, sym}
use Rattle.std.specs.Prelude.{IsTrue}
use Rattle.csv.specs.Records.{fields_of}
use Rattle.mbdc_fit.specs.Listed.{Names, field_in}
use Rattle.mbdc_fit.proofs.Listings.{empty_names_none, of_all, one_more}
use Rattle.mbdc_fit.proofs.list.listed.place_of.Goals as goal

pub places-preserved : goal.places-preserved
places-preserved c = one_more (λ k. ¬ (Names c.args.column (field_in (fields_of c.args.fields.now) k))) c.places.place c.places.invariant
    (λ named.
    let is : IsTrue c.is_named.result = c.is_named.ensures.1 (subst (Names c.args.column) (sym c.field_in.ensures) named) in
    absurd (let bad : false ≡ true = sym c.if-is_named.false ∙ is in cc))

pub returns-clause-missing : goal.returns-clause-missing
returns-clause-missing c = (refl, of_all (fields_of c.args.fields.now) (λ field. ¬ (Names c.args.column field)) c.places.place (omega (arith, c.places-test.false, c.len-place-end.ensures)) c.places.invariant (empty_names_none c.args.column))
