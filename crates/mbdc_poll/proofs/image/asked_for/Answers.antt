use Rattle.std.proofs.Common.{arith}
use Rattle.std.proofs.lemmas.Grind.{common_steps}
use Rattle.mbdc_poll.proofs.image.asked_for.Goals as goal

pub meters-preserved : goal.meters-preserved
meters-preserved g c = grind (arith, common_steps)
