use Rattle.std.proofs.Common.{arith}
use Rattle.std.proofs.lemmas.Grind.{common_steps}
use Rattle.mbdc_reading.proofs.text.put_datum.Goals as goal

pub returns-in-Second-clause-written : goal.returns-in-Second-clause-written
returns-in-Second-clause-written c = grind (arith, common_steps)

pub returns-in-Time-clause-written : goal.returns-in-Time-clause-written
returns-in-Time-clause-written c = grind (arith, common_steps)
