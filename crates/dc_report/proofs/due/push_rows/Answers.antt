use Rattle.std.proofs.Common.{arith}
use Rattle.std.proofs.lemmas.Grind.{common_steps}
use Rattle.dc_report.proofs.due.push_rows.Goals as goal

pub loop-point-preserved : goal.loop-point-preserved
loop-point-preserved g c = grind (arith, common_steps)
