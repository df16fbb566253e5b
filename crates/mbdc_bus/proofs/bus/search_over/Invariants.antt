use Rattle.std.proofs.Common.{◌≡◌, true, []}
use Rattle.std.specs.Prelude.{IfSome}
use Rattle.dc_search.specs.State.{rounds_left}
use Rattle.mbdc_bus.specs.Bus.{HasAsked}
use Rattle.mbdc_bus.proofs.Budgets.{IsWithin}
use Rattle.mbdc_bus.proofs.Searching.{Searching}
use Rattle.mbdc_bus.proofs.bus.search_over.Given as goal

abbrev pub invariant-steps : goal.invariant-steps
invariant-steps g l = record {
  meters : g.B.Bus.meters l.bus ≡ g.B.Bus.meters l.initial.bus;
  within : IsWithin l.fn.budget l.search;
  asked : HasAsked g.B.Bus.asks l.fn.budget l.initial.bus l.bus l.search;
  walk : IfSome (g.B.Bus.meters l.initial.bus) (λ told. Searching told l.fn.budget l.search (g.B.Bus.selected l.bus));
  silent : g.B.Bus.lost l.initial.bus ≡ true → (l.bus ≡ l.initial.bus) × Searching [] l.fn.budget l.search [];
}

abbrev pub decreases-steps : goal.decreases-steps
decreases-steps g l = rounds_left l.search
