use Rattle.std.proofs.Common.{◌≤◌, ◌*◌, length, Bool, List, ℕ}
use Rattle.std.specs.Prelude.{◌||◌}
use Rattle.mbdc_change.specs.ChangeLine.{longest_change_line}
use Rattle.mbdc_change.specs.State.{Held}
use Rattle.dc_poller.specs.Fold.{AreSteps}
use Rattle.mbdc_io.specs.Lines.{lines_of}
use Rattle.dc_poller.proofs.fold.fold_all.Given as goal

-- whatever the rest does, the input does with what was done so far
abbrev pub invariant-lines : goal.invariant-lines
invariant-lines g l = record {
  bytes : longest_change_line ≤ 2 * length l.bytes;
  steps : (found : Bool) (house : Held) (text : List ℕ) → AreSteps (lines_of l.rest) found l.house house l.text.bytes text
      → AreSteps (lines_of l.input) (l.found || found) l.initial.house house l.initial.text.bytes text;
}

abbrev pub decreases-lines : goal.decreases-lines
decreases-lines g l = length l.rest
