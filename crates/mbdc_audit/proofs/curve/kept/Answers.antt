use Rattle.std.proofs.Common.{arith}
use Rattle.std.proofs.lemmas.Grind.{common_steps}
use Rattle.mbdc_audit.proofs.curve.kept.Goals as goal

pub returns-in_err-push_unless_one : goal.returns-in_err-push_unless_one
returns-in_err-push_unless_one g c = grind (arith, common_steps)

pub values-preserved : goal.values-preserved
values-preserved g c = grind (arith, common_steps)

pub returns-in_err-push : goal.returns-in_err-push
returns-in_err-push g c = grind (arith, common_steps)

pub returns : goal.returns
returns g c = grind (arith, common_steps)
