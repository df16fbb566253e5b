use Rattle.std.proofs.Common.{◌≡◌, ◌∙◌, ap, rules, sym, tests}
use Rattle.std.specs.Prelude.{None, bytes_eq, option_map}
use Rattle.std.specs.List.{find}
use Rattle.std.proofs.lemmas.Iterator.{YieldsList-from_slice}
use Rattle.std.proofs.lemmas.Iterator.Search.{find_from_yields_List}
use Rattle.mbdc_poll.specs.Addressing.{asked_in}
use Rattle.mbdc_poll.specs.Sparing.{first_question}
use Rattle.mbdc_poll.specs.declared.addressing.Addressed.{Addressed}
use Rattle.mbdc_poll.proofs.addressing.Addressing.address_for.Goals as goal

pub returns-in-Some : goal.returns-in-Some
returns-in-Some c =
    let found : option_map (λ x. x.now) c.find.result ≡ find (λ (it : Addressed). bytes_eq (first_question it.meter None) c.args.request.now) c.args.self.now.selected.now =
    find_from_yields_List (λ (it : Addressed). bytes_eq (first_question it.meter None) c.args.request.now) _ _ c.find.result c.find.ensures.ran
    (YieldsList-from_slice c.args.self.now.selected.now cc) (λ x b q k. search (rules, tests)) in
    ap (λ r. asked_in (option_map (λ x. x.now) r)) (sym c.in-Some.is) ∙ ap asked_in found

pub returns-in-None : goal.returns-in-None
returns-in-None c =
    let found : option_map (λ x. x.now) c.find.result ≡ find (λ (it : Addressed). bytes_eq (first_question it.meter None) c.args.request.now) c.args.self.now.selected.now =
    find_from_yields_List (λ (it : Addressed). bytes_eq (first_question it.meter None) c.args.request.now) _ _ c.find.result c.find.ensures.ran
    (YieldsList-from_slice c.args.self.now.selected.now cc) (λ x b q k. search (rules, tests)) in
    ap (λ r. asked_in (option_map (λ x. x.now) r)) (sym c.in-None.is) ∙ ap asked_in found
