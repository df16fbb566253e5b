use Rattle.std.proofs.Common.{arith}
use Rattle.std.proofs.lemmas.Grind.{common_steps}
use Rattle.dc_readout.proofs.world.world.World.start.Goals as goal

pub offset_bounds-scripts-meter : goal.offset_bounds-scripts-meter
offset_bounds-scripts-meter g c = grind (arith, common_steps)

pub bounds-scripts-meter : goal.bounds-scripts-meter
bounds-scripts-meter g c = grind (arith, common_steps)

pub start-requires : goal.start-requires
start-requires g c κs = grind (arith, common_steps)

pub drop-self-inside-requires : goal.drop-self-inside-requires
drop-self-inside-requires g c κs = grind (arith, common_steps)
