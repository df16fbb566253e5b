use Rattle.std.proofs.Common.{arith}
use Rattle.std.proofs.lemmas.Grind.{common_steps}
use Rattle.dc_meters.proofs.points.PointsIterator.next.Goals as goal

pub returns-in-Some-next_in-clause-goes : goal.returns-in-Some-next_in-clause-goes
returns-in-Some-next_in-clause-goes g c = grind (arith, common_steps)

pub returns-in_err-part-clause-steps : goal.returns-in_err-part-clause-steps
returns-in_err-part-clause-steps g c = grind (arith, common_steps)

pub parts-smaller : goal.parts-smaller
parts-smaller g c = grind (arith, common_steps)
