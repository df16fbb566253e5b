use Rattle.std.proofs.Common.{arith}
use Rattle.std.proofs.lemmas.Grind.{common_steps}
use Rattle.mbdc_audit.proofs.curve.Curve.due.Goals as goal

pub returns-in_default : goal.returns-in_default
returns-in_default g c = grind (arith, common_steps)

pub returns-then-not-is_exchanged : goal.returns-then-not-is_exchanged
returns-then-not-is_exchanged g c = grind (arith, common_steps)

pub runs-preserved : goal.runs-preserved
runs-preserved g c = grind (arith, common_steps)

pub returns : goal.returns
returns g c = grind (arith, common_steps)
