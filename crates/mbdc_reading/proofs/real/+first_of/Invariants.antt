use Rattle.std.proofs.Common.{length}
use Rattle.mbdc_reading.proofs.real.+first_of.Given as goal

abbrev pub decreases-first_of : goal.decreases-first_of
decreases-first_of l = length l.cuts.now
