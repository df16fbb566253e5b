use Rattle.std.proofs.Common.{length}
use Rattle.mbdc_sheet.proofs.line.+digits_on.Given as goal

abbrev pub decreases-digits_on : goal.decreases-digits_on
decreases-digits_on l = length l.text.now
