use Rattle.std.proofs.Common.{arith}
use Rattle.std.proofs.lemmas.Grind.{common_steps}
use Rattle.mbdc_reading.specs.Vifes.{vife_at}
use Rattle.mbdc_reading.proofs.vifes.vife_at.Goals as goal

pub returns-in-64-to-111-clause-exact : goal.returns-in-64-to-111-clause-exact
unfolding vife_at
returns-in-64-to-111-clause-exact c = grind (arith, common_steps)

pub returns-in_default-clause-exact : goal.returns-in_default-clause-exact
unfolding vife_at
returns-in_default-clause-exact c = grind (arith, common_steps)
