use Rattle.std.proofs.Common.{length}
use Rattle.mbdc_sheet.proofs.written.+strip_grouped.Given as goal

abbrev pub decreases-strip_grouped : goal.decreases-strip_grouped
decreases-strip_grouped l = length l.digits.now
