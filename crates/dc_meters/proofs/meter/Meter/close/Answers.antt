use Rattle.std.proofs.Common.{arith}
use Rattle.std.proofs.lemmas.Grind.{common_steps}
use Rattle.dc_meters.proofs.meter.Meter.close.Goals as goal

pub new-requires-2-clause-reading : goal.new-requires-2-clause-reading
new-requires-2-clause-reading g c = grind (arith, common_steps)

pub returns-clause-is_reading : goal.returns-clause-is_reading
returns-clause-is_reading g c = grind (arith, common_steps)
