use Rattle.std.proofs.Common.{length}
use Rattle.mbdc_audit.proofs.totals.+share.Given as goal

abbrev pub decreases-share : goal.decreases-share
decreases-share l = length l.parts.now
