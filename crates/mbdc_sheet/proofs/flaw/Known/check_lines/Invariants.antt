use Rattle.std.proofs.Common.{◌≡◌, ◌+◌, ◌≤◌, length}
use Rattle.std.specs.Prelude.{◌&&◌}
use Rattle.mbdc_io.specs.Lines.{lines_of}
use Rattle.mbdc_sheet.specs.Parts.{parts_of}
use Rattle.mbdc_sheet.specs.Sheet.{are_shown}
use Rattle.mbdc_sheet.proofs.flaw.Known.check_lines.Given as goal

abbrev pub decreases-lines : goal.decreases-lines
decreases-lines g l = length l.left

abbrev pub invariant-lines : goal.invariant-lines
invariant-lines g l =
    ((l.are_shown && are_shown l.self.user.now (parts_of 60 l.page) l.number (lines_of l.left))
    ≡ are_shown l.self.user.now (parts_of 60 l.page) 1 (lines_of l.self.file.now))
    × (l.number + length l.left ≤ length l.self.file.now + 1)
    × (g.W.Sink.put_failures l.out ≡ g.W.Sink.put_failures l.fn.out)
