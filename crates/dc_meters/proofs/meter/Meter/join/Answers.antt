use Rattle.std.proofs.Common.{arith}
use Rattle.std.proofs.lemmas.Grind.{common_steps}
use Rattle.dc_meters.proofs.meter.Meter.join.Goals as goal

pub returns-else-number-eq1-clause-ok : goal.returns-else-number-eq1-clause-ok
returns-else-number-eq1-clause-ok g c = grind (arith, common_steps)
