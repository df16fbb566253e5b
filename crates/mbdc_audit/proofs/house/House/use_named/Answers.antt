use Rattle.std.proofs.Common.{refl, rules, sym, tests, ◌∙◌}
use Rattle.std.specs.Str.{bytes_eq}
use Rattle.std.proofs.lemmas.Iterator.{YieldsList-from_slice}
use Rattle.std.proofs.lemmas.Iterator.Search.{position_from_yields_List}
use Rattle.mbdc_audit.specs.declared.house.Use as use_type
use Rattle.mbdc_audit.specs.View.{house_of}
use Rattle.mbdc_audit.proofs.Named.{first_of}
use Rattle.mbdc_audit.proofs.house.House.use_named.Goals as goal

pub returns-in-Some-clause-ok : goal.returns-in-Some-clause-ok
returns-in-Some-clause-ok g c =
    let us = c.args.self.now.uses.items in
    let place = position_from_yields_List (λ (u : use_type.Use). bytes_eq u.name.now c.args.name.now) _ _ c.position-place.result
    c.position-place.ensures.ran (YieldsList-from_slice us cc) (λ x b q k. search (rules, tests)) in
    first_of (house_of c.args.self.now) us c.args.name.now refl ∙ (sym place ∙ c.in-Some.is)

pub returns-in-None-clause-err : goal.returns-in-None-clause-err
returns-in-None-clause-err g c =
    let us = c.args.self.now.uses.items in
    let place = position_from_yields_List (λ (u : use_type.Use). bytes_eq u.name.now c.args.name.now) _ _ c.position-place.result
    c.position-place.ensures.ran (YieldsList-from_slice us cc) (λ x b q k. search (rules, tests)) in
    first_of (house_of c.args.self.now) us c.args.name.now refl ∙ (sym place ∙ c.in-None.is)
