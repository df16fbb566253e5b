use Rattle.std.proofs.Common.{length}
use Rattle.mbdc_sheet.proofs.text.+is_like.Given as goal

abbrev pub decreases-is_like : goal.decreases-is_like
decreases-is_like l = length l.shapes.now
