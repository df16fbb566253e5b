use Rattle.std.proofs.Common.{length}
use Rattle.mbdc_poll.proofs.readout.+meters_left.Given as goal

abbrev pub decreases-meters_left : goal.decreases-meters_left
decreases-meters_left g l = length l.stations.now
