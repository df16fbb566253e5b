use Rattle.std.proofs.Common.{arith}
use Rattle.std.proofs.lemmas.Grind.{common_steps}
use Rattle.mbdc_audit.proofs.sound.is_counted.Goals as goal

pub returns-then-any : goal.returns-then-any
returns-then-any c = grind (arith, common_steps)

pub returns-else-any : goal.returns-else-any
returns-else-any c = grind (arith, common_steps)
