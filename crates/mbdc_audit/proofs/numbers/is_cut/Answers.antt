use Rattle.std.proofs.Common.{◌||◌, Bool, rules, tests, sym, ap, ◌∙◌, subst}
use Rattle.std.proofs.lemmas.Iterator.{YieldsList-from_slice}
use Rattle.std.proofs.lemmas.Iterator.Search.{any_from_yields_List}
use Rattle.std.specs.Prelude.{◌==◌, ◌↔◌, Contains, IsTrue}
use Rattle.mbdc_audit.specs.Amount.{is_over_at}
use Rattle.mbdc_audit.specs.declared.house.Part.{Part}
use Rattle.mbdc_audit.specs.declared.curve.Run.{Run}
use Rattle.mbdc_audit.specs.Published.{cuts}
use Rattle.mbdc_audit.specs.View.{place_of, window_of}
use Rattle.mbdc_audit.specs.Walk.{open_of}
use Rattle.mbdc_audit.proofs.Periods.{cut}
use Rattle.mbdc_audit.proofs.numbers.is_cut.Goals as goal

pub returns-then-by_part : goal.returns-then-by_part
returns-then-by_part g c =
    let moment = c.args.moment in
    let is = cut c.args.place.now c.args.window.now c.args.moment c.any-by_part.result c.any-by_run.result
    (any_from_yields_List (λ (x : Part). (x.from == c.args.moment) || (x.to == c.args.moment)) _ _ c.any-by_part.result c.any-by_part.ensures.ran
    (YieldsList-from_slice c.args.window.now.parts.items cc) (λ x b q k. search (rules, tests)))
    (any_from_yields_List (λ (r : Run). (r.begin == c.args.moment) || is_over_at c.args.moment r.end) _ _ c.any-by_run.result c.any-by_run.ensures.ran
    (YieldsList-from_slice c.args.place.now.runs.items cc) (λ x b q k. search (rules, tests))) in
    subst (λ (b : Bool). IsTrue b ↔ Contains (cuts (open_of (place_of c.args.place.now) (window_of c.args.window.now))) c.args.moment)
    (ap (λ (b : Bool). b || c.any-by_run.result) c.if-by_part.true ∙ sym c.if-by_part.true) is

pub returns-else-by_part : goal.returns-else-by_part
returns-else-by_part g c =
    let is = cut c.args.place.now c.args.window.now c.args.moment c.any-by_part.result c.any-by_run.result
    (any_from_yields_List (λ (x : Part). (x.from == c.args.moment) || (x.to == c.args.moment)) _ _ c.any-by_part.result c.any-by_part.ensures.ran
    (YieldsList-from_slice c.args.window.now.parts.items cc) (λ x b q k. search (rules, tests)))
    (any_from_yields_List (λ (r : Run). (r.begin == c.args.moment) || is_over_at c.args.moment r.end) _ _ c.any-by_run.result c.any-by_run.ensures.ran
    (YieldsList-from_slice c.args.place.now.runs.items cc) (λ x b q k. search (rules, tests))) in
    subst (λ (b : Bool). IsTrue b ↔ Contains (cuts (open_of (place_of c.args.place.now) (window_of c.args.window.now))) c.args.moment)
    (ap (λ (b : Bool). b || c.any-by_run.result) c.if-by_part.false) is
