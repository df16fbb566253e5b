use Rattle.std.proofs.Common.{◌≡◌, take}
use Rattle.dc_readout.specs.World.{world_after}
use Rattle.dc_readout.proofs.world.lives.play.Given as goal

abbrev pub invariant-loop-i : goal.invariant-loop-i
invariant-loop-i g l = l.world ≡ world_after l.scripts (take l.i l.events)
