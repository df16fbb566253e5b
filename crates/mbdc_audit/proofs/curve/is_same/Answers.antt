use Rattle.std.proofs.Common.{arith}
use Rattle.std.proofs.lemmas.Grind.{common_steps}
use Rattle.mbdc_audit.proofs.curve.is_same.Goals as goal

pub returns-then-unwrap_or : goal.returns-then-unwrap_or
returns-then-unwrap_or c = grind (arith, common_steps)

pub returns-else-unwrap_or : goal.returns-else-unwrap_or
returns-else-unwrap_or c = grind (arith, common_steps)

pub returns-in-None-None : goal.returns-in-None-None
returns-in-None-None c = grind (arith, common_steps)

pub returns-in_default : goal.returns-in_default
returns-in_default c = grind (arith, common_steps)

pub returns-in_default-2 : goal.returns-in_default-2
returns-in_default-2 c = grind (arith, common_steps)
