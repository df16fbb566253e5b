use Rattle.std.proofs.Common.{rules, tests, ◌≡◌, ◌&&◌, not, sym, ap, ◌∙◌, map}
use Rattle.std.specs.Prelude.{◌==◌}
use Rattle.std.proofs.lemmas.Iterator.{YieldsList-from_slice}
use Rattle.std.proofs.lemmas.Iterator.Search.{any_from_yields_List}
use Rattle.mbdc_audit.specs.declared.house.Struck.{Struck}
use Rattle.mbdc_audit.specs.Walk.{is_other}
use Rattle.mbdc_audit.proofs.Checks.{link, pair, same}
use Rattle.mbdc_audit.proofs.Telegrams.{no_other, not_struck, one_to}
use Rattle.mbdc_audit.proofs.Tests.{was_false}
use Rattle.mbdc_audit.proofs.teller.Teller.tell_telegram.Goals as goal

pub returns : goal.returns
returns g c =
    let values = c.args.values.now in
    let struck = c.args.struck.now in
    let v = c.args.value.now in
    let is_struck = any_from_yields_List (λ (x : Struck). (x.run == v.run) && (x.moment == v.moment)) _ _ c.any-is_struck.result
    c.any-is_struck.ensures.ran (YieldsList-from_slice struck cc) (λ x b q k. search (rules, tests)) in
    let has_other = any_from_yields_List (is_other v) _ _ c.any-has_other.result c.any-has_other.ensures.ran
    (YieldsList-from_slice values cc) (λ x b q k. search (rules, tests)) in
    same (link c.in_ok-unless.ensures c.in_ok-unless-2.ensures pair) (
      λ p. one_to values struck v (sym is_struck ∙ was_false _ p.0) (sym has_other ∙ was_false _ p.1),
      λ h. (ap not (is_struck ∙ not_struck values struck v h), ap not (has_other ∙ no_other values struck v h)),
    )
