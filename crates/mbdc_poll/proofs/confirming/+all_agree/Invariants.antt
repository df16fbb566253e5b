use Rattle.std.proofs.Common.{length}
use Rattle.mbdc_poll.proofs.confirming.+all_agree.Given as goal

abbrev pub decreases-all_agree : goal.decreases-all_agree
decreases-all_agree l = length l.first
