use Rattle.std.proofs.Common.{arith}
use Rattle.std.proofs.lemmas.Grind.{common_steps}
use Rattle.mbdc_reading.proofs.text.put_joined.Goals as goal

pub returns-in-empty-empty-eq42-clause-written : goal.returns-in-empty-empty-eq42-clause-written
returns-in-empty-empty-eq42-clause-written c = grind (arith, common_steps)

pub returns-in_default-clause-written : goal.returns-in_default-clause-written
returns-in_default-clause-written c = grind (arith, common_steps)
