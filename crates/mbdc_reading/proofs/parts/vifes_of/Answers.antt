use Rattle.std.proofs.Common.{arith}
use Rattle.std.proofs.lemmas.Grind.{common_steps}
use Rattle.mbdc_reading.proofs.parts.vifes_of.Goals as goal

pub returns-in-239 : goal.returns-in-239
returns-in-239 c = grind (arith, common_steps)

pub returns-in-124 : goal.returns-in-124
returns-in-124 c = grind (arith, common_steps)
