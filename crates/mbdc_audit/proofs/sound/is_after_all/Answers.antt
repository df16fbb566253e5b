use Rattle.std.proofs.Common.{arith}
use Rattle.std.proofs.lemmas.Grind.{common_steps}
use Rattle.mbdc_audit.proofs.sound.is_after_all.Goals as goal

pub returns-then-has_time : goal.returns-then-has_time
returns-then-has_time c = grind (arith, common_steps)

pub returns-else-has_time : goal.returns-else-has_time
returns-else-has_time c = grind (arith, common_steps)
