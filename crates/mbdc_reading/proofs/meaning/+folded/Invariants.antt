use Rattle.std.proofs.Common.{length}
use Rattle.mbdc_reading.proofs.meaning.+folded.Given as goal

abbrev pub decreases-folded : goal.decreases-folded
decreases-folded l = length l.vifes.now
