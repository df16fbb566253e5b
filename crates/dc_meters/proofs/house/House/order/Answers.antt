use Rattle.std.proofs.Common.{arith}
use Rattle.std.proofs.lemmas.Grind.{common_steps}
use Rattle.dc_meters.proofs.house.House.order.Goals as goal

pub new-row-requires : goal.new-row-requires
new-row-requires g c = grind (arith, common_steps)

pub fit-requires-clause-absent : goal.fit-requires-clause-absent
fit-requires-clause-absent g c = grind (arith, common_steps)

pub fit-requires-clause-room : goal.fit-requires-clause-room
fit-requires-clause-room g c = grind (arith, common_steps)

pub move_to-requires-clause-room : goal.move_to-requires-clause-room
move_to-requires-clause-room g c = grind (arith, common_steps)
