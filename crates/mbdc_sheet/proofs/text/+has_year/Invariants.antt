use Rattle.std.proofs.Common.{length}
use Rattle.mbdc_sheet.proofs.text.+has_year.Given as goal

abbrev pub decreases-has_year : goal.decreases-has_year
decreases-has_year l = length l.text.now
