use Rattle.std.proofs.Common.{length}
use Rattle.mbdc_reading.proofs.front.+is_printed.Given as goal

abbrev pub decreases-is_printed : goal.decreases-is_printed
decreases-is_printed l = length l.text.now
