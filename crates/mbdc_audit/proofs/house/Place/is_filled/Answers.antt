use Rattle.std.proofs.Common.{◌≡◌, rules, tests, arith}
use Rattle.std.specs.List.{list_all}
use Rattle.std.proofs.lemmas.Iterator.{YieldsList-from_slice}
use Rattle.std.proofs.lemmas.Iterator.Search.{all_from_yields_List}
use Rattle.std.proofs.lemmas.Grind.{common_steps}
use Rattle.mbdc_audit.specs.Totals.{is_window_own}
use Rattle.mbdc_audit.specs.declared.house.Window as window_type
use Rattle.mbdc_audit.proofs.house.Place.is_filled.Goals as goal

pub returns-then-to-moment : goal.returns-then-to-moment
returns-then-to-moment g c =
    let own : c.all-are_own.result ≡ list_all (λ (w : window_type.Window _). is_window_own c.args.user c.args.span w) c.args.self.now.windows.items =
    all_from_yields_List (λ (w : window_type.Window _). is_window_own c.args.user c.args.span w) _ _ c.all-are_own.result
    c.all-are_own.ensures.ran (YieldsList-from_slice c.args.self.now.windows.items cc) (λ x b q k. search (rules, tests)) in
    search (rules, tests, own)

pub returns-then-not-is_own : goal.returns-then-not-is_own
returns-then-not-is_own g c = grind (arith, common_steps)

pub returns-else-to-moment : goal.returns-else-to-moment
returns-else-to-moment g c = grind (arith, common_steps)
