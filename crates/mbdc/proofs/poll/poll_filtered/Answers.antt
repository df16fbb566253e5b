use Rattle.std.proofs.Common.{inr, arith}
use Rattle.mbdc.proofs.Commands.{polled}
use Rattle.mbdc.proofs.poll.poll_filtered.Goals as goal

pub returns : goal.returns
returns g c = inr (polled _ g.D.Disk _ _ _ _ _ _ _ _ c.args.task.now.image.now _ _ _ (omega (arith, c.max.ensures)) c.poll_over.ensures)
