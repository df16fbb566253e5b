use Rattle.std.proofs.Common.{◌≡◌}
use Rattle.dc_readout.specs.Request.{frame_asked}
use Rattle.dc_readout.proofs.Turns.{moved_to}
use Rattle.dc_readout.proofs.world.position.see_all.Given as goal

abbrev pub invariant-loop-i : goal.invariant-loop-i
invariant-loop-i g l = l.positions ≡ moved_to l.i (frame_asked l.request) l.scripts l.fn.positions
