use Rattle.std.proofs.Common.{arith}
use Rattle.std.proofs.lemmas.Grind.{common_steps}
use Rattle.mbdc_poll.specs.Confirming.{agree}
use Rattle.mbdc_poll.proofs.confirming.agree.Goals as goal

pub returns-else-ends_agree : goal.returns-else-ends_agree
unfolding agree
returns-else-ends_agree c = grind (arith, common_steps)
