use Rattle.std.proofs.Common.{arith}
use Rattle.std.proofs.lemmas.Grind.{common_steps}
use Rattle.mbdc_reading.proofs.vifes.vife_in.Goals as goal

pub loop-rows-preserved : goal.loop-rows-preserved
loop-rows-preserved c = grind (arith, common_steps)

pub returns-clause-exact : goal.returns-clause-exact
returns-clause-exact c = grind (arith, common_steps)
