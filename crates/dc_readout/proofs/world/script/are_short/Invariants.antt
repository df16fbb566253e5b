use Rattle.std.proofs.Common.{◌≡◌, ◌<◌, ◌≤◌, ℕ, List, length, Some}
use Rattle.std.specs.Prelude.{slice_get}
use Rattle.dc_linkframe.specs.Frame.{longest_body}
use Rattle.dc_readout.proofs.world.script.are_short.Given as goal

abbrev pub invariant-loop-place : goal.invariant-loop-place
invariant-loop-place g l = (j : ℕ) → j < l.place → (body : List ℕ) → slice_get l.bodies j ≡ Some body → length body ≤ longest_body
