use Rattle.std.proofs.Common.{arith}
use Rattle.std.proofs.lemmas.Grind.{common_steps}
use Rattle.mbdc_shown.proofs.bodies.Bodies.of.Goals as goal

pub parts-preserved : goal.parts-preserved
parts-preserved g c = grind (arith, common_steps)

pub returns : goal.returns
returns g c = grind (arith, common_steps)
