use Rattle.std.proofs.Common.{length}
use Rattle.mbdc_bus.proofs.world.line.+hear_all.Given as goal

abbrev pub decreases-hear_all : goal.decreases-hear_all
decreases-hear_all g l = length l.meters.now
