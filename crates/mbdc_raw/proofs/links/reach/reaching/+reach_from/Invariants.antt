use Rattle.std.proofs.Common.{length}
use Rattle.mbdc_raw.proofs.links.reach.reaching.+reach_from.Given as goal

abbrev pub decreases-reach_from : goal.decreases-reach_from
decreases-reach_from g l = length l.links.now
