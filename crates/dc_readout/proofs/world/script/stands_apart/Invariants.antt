use Rattle.std.proofs.Common.{◌≡◌, ◌<◌, ℕ, true, Some}
use Rattle.std.specs.Prelude.{slice_get}
use Rattle.dc_readout.specs.Meter.{Meter}
use Rattle.dc_readout.specs.Regular.{clashes}
use Rattle.dc_readout.proofs.world.script.stands_apart.Given as goal

abbrev pub invariant-loop-other : goal.invariant-loop-other
invariant-loop-other g l = (j : ℕ) → j < l.other → (one other : Meter) → slice_get l.scripts l.meter ≡ Some one → slice_get l.scripts j ≡ Some other → clashes one other ≡ true → l.meter ≡ j
