use Rattle.std.proofs.Common.{◌≡◌, ◌-◌, length}
use Rattle.std.specs.Prelude.{slice_get}
use Rattle.mbdc_io.specs.Lines.{lines_of}
use Rattle.mbdc_sheet.proofs.line.line_at.Given as goal

abbrev pub decreases-lines : goal.decreases-lines
decreases-lines l = length l.left

abbrev pub invariant-lines : goal.invariant-lines
invariant-lines l = slice_get (lines_of l.left) l.before ≡ slice_get (lines_of l.fn.file) (l.fn.number - 1)
