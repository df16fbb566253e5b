-- the marked steps so far, and those still to come, are those of all the entries
use Rattle.std.proofs.Common.{◌≡◌, ◌+◌, ◌≤◌, ◌∷◌, length}
use Rattle.std.specs.Prelude.{filter}
use Rattle.mbdc_audit.specs.Consumption.Mark.{is_marked_in, marked_in, steps_after}
use Rattle.mbdc_audit.proofs.consumption.mark.backwards.Given as goal

abbrev pub invariant-steps : goal.invariant-steps
invariant-steps l =
    (l.count + length (filter (is_marked_in l.from l.to) (steps_after l.is_after_doubtful (l.before ∷ l.later))) ≡ length (marked_in l.fn.entries l.from l.to))
    × (l.count + length l.later ≤ length l.fn.entries)

abbrev pub decreases-steps : goal.decreases-steps
decreases-steps l = length l.later
