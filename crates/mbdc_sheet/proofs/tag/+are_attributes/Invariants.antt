use Rattle.std.proofs.Common.{length}
use Rattle.mbdc_sheet.proofs.tag.+are_attributes.Given as goal

abbrev pub decreases-are_attributes : goal.decreases-are_attributes
decreases-are_attributes l = length l.text.now
