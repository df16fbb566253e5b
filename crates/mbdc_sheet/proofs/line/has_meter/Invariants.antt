use Rattle.std.proofs.Common.{◌≡◌, length}
use Rattle.std.specs.List.{list_any}
use Rattle.mbdc_io.specs.Lines.{lines_of}
use Rattle.mbdc_sheet.specs.Line.{is_meter}
use Rattle.mbdc_sheet.proofs.line.has_meter.Given as goal

abbrev pub decreases-lines : goal.decreases-lines
decreases-lines l = length l.left

abbrev pub invariant-lines : goal.invariant-lines
invariant-lines l = list_any (is_meter l.identity) (lines_of l.left) ≡ list_any (is_meter l.identity) (lines_of l.fn.file)
