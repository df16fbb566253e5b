use Rattle.std.proofs.Common.{length}
use Rattle.mbdc_sheet.proofs.written.+strip.Given as goal

abbrev pub decreases-strip : goal.decreases-strip
decreases-strip l = length l.prefix.now
