use Rattle.std.proofs.Common.{length}
use Rattle.mbdc_reading.proofs.parts.+maker_in.Given as goal

abbrev pub decreases-maker_in : goal.decreases-maker_in
decreases-maker_in l = length l.vifes.now
