use Rattle.std.proofs.Common.{length}
use Rattle.mbdc_raw.proofs.links.reach.connecting.+release_all.Given as goal

abbrev pub decreases-release_all : goal.decreases-release_all
decreases-release_all g l = length l.peers.now
