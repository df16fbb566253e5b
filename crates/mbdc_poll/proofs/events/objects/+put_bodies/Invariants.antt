use Rattle.std.proofs.Common.{length}
use Rattle.mbdc_poll.proofs.events.objects.+put_bodies.Given as goal

abbrev pub decreases-put_bodies : goal.decreases-put_bodies
decreases-put_bodies g l = length l.bodies.now
