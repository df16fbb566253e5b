use Rattle.std.proofs.Common.{length}
use Rattle.mbdc_sheet.proofs.tag.+are_calls.Given as goal

abbrev pub decreases-are_calls : goal.decreases-are_calls
decreases-are_calls l = length l.style.now
