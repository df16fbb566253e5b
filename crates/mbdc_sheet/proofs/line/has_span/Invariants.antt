use Rattle.std.proofs.Common.{◌≡◌, length}
use Rattle.std.specs.List.{list_any}
use Rattle.mbdc_io.specs.Lines.{lines_of}
use Rattle.mbdc_sheet.specs.Line.{is_span}
use Rattle.mbdc_sheet.proofs.line.has_span.Given as goal

abbrev pub decreases-lines : goal.decreases-lines
decreases-lines l = length l.left

abbrev pub invariant-lines : goal.invariant-lines
invariant-lines l = list_any (is_span l.month) (lines_of l.left) ≡ list_any (is_span l.month) (lines_of l.fn.file)
