use Rattle.std.proofs.Common.{arith}
use Rattle.std.proofs.lemmas.Grind.{common_steps}
use Rattle.mbdc_poll.proofs.image.queue_of.Goals as goal

pub meters-preserved-then-is_wanted : goal.meters-preserved-then-is_wanted
meters-preserved-then-is_wanted g c = grind (arith, common_steps)
