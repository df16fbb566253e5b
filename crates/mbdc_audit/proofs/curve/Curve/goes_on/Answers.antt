use Rattle.std.proofs.Common.{arith}
use Rattle.std.proofs.lemmas.Grind.{common_steps}
use Rattle.mbdc_audit.proofs.curve.Curve.goes_on.Goals as goal

pub returns-then-first-value : goal.returns-then-first-value
returns-then-first-value g c = grind (arith, common_steps)

pub returns : goal.returns
returns g c = grind (arith, common_steps)

pub values-preserved : goal.values-preserved
values-preserved g c = grind (arith, common_steps)

pub values-preserved-then-value-to : goal.values-preserved-then-value-to
values-preserved-then-value-to g c = grind (arith, common_steps)
