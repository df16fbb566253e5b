use Rattle.std.proofs.Common.{length}
use Rattle.mbdc_poll.proofs.readout.+tell_lates.Given as goal

abbrev pub decreases-tell_lates : goal.decreases-tell_lates
decreases-tell_lates g l = length l.stations.now
