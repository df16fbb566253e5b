use Rattle.std.proofs.Common.{◌≡◌, true, false, []}
use Rattle.std.specs.Prelude.{IfSome}
use Rattle.dc_search.specs.State.{rounds_left}
use Rattle.mbdc_bus.specs.Bus.{HasAsked}
use Rattle.mbdc_bus.specs.Windows.{Questions}
use Rattle.mbdc_bus.proofs.Budgets.{IsWithin}
use Rattle.mbdc_bus.proofs.Searching.{Searching}
use Rattle.mbdc_bus.proofs.windows.search_windows.Given as goal

abbrev pub invariant-steps : goal.invariant-steps
invariant-steps g l = record {
  meters : g.B.Bus.meters l.bus ≡ g.B.Bus.meters l.initial.bus;
  within : IsWithin l.fn.budget l.search;
  asked : HasAsked (Questions g.B.Bus.asks_all) l.fn.budget (record { bus = l.initial.bus; has_several = false }) (record { bus = l.bus; has_several = l.has_several }) l.search;
  walk : IfSome (g.B.Bus.meters l.initial.bus) (λ told. (l.has_several ≡ false) × Searching told l.fn.budget l.search (g.B.Bus.selected l.bus));
  silent : g.B.Bus.lost l.initial.bus ≡ true → (l.bus ≡ l.initial.bus) × ((l.has_several ≡ false) × Searching [] l.fn.budget l.search []);
}

abbrev pub decreases-steps : goal.decreases-steps
decreases-steps g l = rounds_left l.search
