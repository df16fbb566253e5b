use Rattle.std.proofs.Common.{length}
use Rattle.mbdc_sheet.proofs.text.+are_of_date.Given as goal

abbrev pub decreases-are_of_date : goal.decreases-are_of_date
decreases-are_of_date l = length l.text.now
