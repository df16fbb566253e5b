use Rattle.std.proofs.Common.{length}
use Rattle.mbdc_poll.proofs.recounting.+doubt.Given as goal

abbrev pub decreases-doubt : goal.decreases-doubt
decreases-doubt l = length l.known.now
