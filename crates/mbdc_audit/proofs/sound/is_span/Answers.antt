use Rattle.std.proofs.Common.{arith}
use Rattle.std.proofs.lemmas.Grind.{common_steps}
use Rattle.mbdc_audit.proofs.sound.is_span.Goals as goal

pub returns-then-from-to : goal.returns-then-from-to
returns-then-from-to c = grind (arith, common_steps)

pub returns-else-from-to : goal.returns-else-from-to
returns-else-from-to c = grind (arith, common_steps)
