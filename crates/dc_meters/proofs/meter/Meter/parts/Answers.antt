use Rattle.std.proofs.Common.{arith}
use Rattle.std.proofs.lemmas.Grind.{common_steps}
use Rattle.dc_meters.proofs.meter.Meter.parts.Goals as goal

pub returns-clause-is_meter : goal.returns-clause-is_meter
returns-clause-is_meter g c = grind (arith, common_steps)
