use Rattle.std.proofs.Common.{◌≡◌, ◌<◌, ℕ, Some}
use Rattle.std.specs.Prelude.{slice_get}
use Rattle.dc_readout.specs.Meter.{Meter}
use Rattle.dc_readout.specs.Regular.{IsFitting, StandsApart}
use Rattle.dc_readout.proofs.world.script.are_regular.Given as goal

abbrev pub invariant-loop-meter : goal.invariant-loop-meter
invariant-loop-meter g l = (i : ℕ) → i < l.meter → (one : Meter) → slice_get l.scripts i ≡ Some one → IsFitting one × StandsApart l.scripts i
