use Rattle.std.proofs.Common.{◌-◌}
use Rattle.dc_search.proofs.Sweeps.{Swept}
use Rattle.dc_search.proofs.bus.sweep.Given as goal

abbrev pub invariant-loop-mask : goal.invariant-loop-mask
invariant-loop-mask g l = Swept l.bus l.fn.budget l.search

abbrev pub decreases-loop-mask : goal.decreases-loop-mask
decreases-loop-mask g l = l.search.budget - l.search.selections
