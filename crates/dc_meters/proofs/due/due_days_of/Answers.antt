use Rattle.std.proofs.Common.{arith}
use Rattle.std.proofs.lemmas.Grind.{common_steps}
use Rattle.dc_meters.proofs.due.due_days_of.Goals as goal

pub loop-day-preserved : goal.loop-day-preserved
loop-day-preserved g c = grind (arith, common_steps)
