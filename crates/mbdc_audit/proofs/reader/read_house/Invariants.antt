use Rattle.std.proofs.Common.{All, ◌≡◌, ◌≤◌, ◌++◌, List, ℕ, false, length}
use Rattle.mbdc_io.specs.Lines.{lines_of}
use Rattle.mbdc_audit.specs.View.{house_of}
use Rattle.mbdc_audit.specs.File.{Steps, empty}
use Rattle.mbdc_audit.specs.Line.{IsAsked}
use Rattle.mbdc_audit.specs.Walk.{IsQuiet}
use Rattle.mbdc_audit.proofs.reader.read_house.Given as goal

abbrev pub invariant-lines : goal.invariant-lines
invariant-lines g l = (before : List (List ℕ)) × (lines_of l.fn.file ≡ before ++ lines_of l.left)
    × Steps 0 empty before l.stage (house_of l.house)
    × (length l.left ≤ length l.fn.file)
    × (l.fn.may_ask ≡ false → IsQuiet (house_of l.house) × All (λ line. IsAsked line → ⊥) before)

abbrev pub decreases-lines : goal.decreases-lines
decreases-lines g l = length l.left
