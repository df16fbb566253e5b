use Rattle.std.proofs.Common.{length}
use Rattle.mbdc_reading.proofs.content.headline.+keep.Given as goal

abbrev pub decreases-keep : goal.decreases-keep
decreases-keep l = length l.vifes.now
