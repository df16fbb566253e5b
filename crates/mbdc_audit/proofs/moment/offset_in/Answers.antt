use Rattle.std.proofs.Common.{arith}
use Rattle.std.proofs.lemmas.Grind.{common_steps}
use Rattle.mbdc_audit.proofs.moment.offset_in.Goals as goal

pub returns-in_err-minutes : goal.returns-in_err-minutes
returns-in_err-minutes c = grind (arith, common_steps)

pub returns-then-minutes-ge-END_OF_MINUTES : goal.returns-then-minutes-ge-END_OF_MINUTES
returns-then-minutes-ge-END_OF_MINUTES c = grind (arith, common_steps)

pub returns-then-is_behind : goal.returns-then-is_behind
returns-then-is_behind c = grind (arith, common_steps)

pub returns-else-is_behind : goal.returns-else-is_behind
returns-else-is_behind c = grind (arith, common_steps)
