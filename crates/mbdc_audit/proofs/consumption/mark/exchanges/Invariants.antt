-- the exchanges so far, and those still to come, are those of all the entries
use Rattle.std.proofs.Common.{◌≡◌, ◌+◌, ◌≤◌, ◌∷◌, drop, length}
use Rattle.mbdc_audit.specs.Consumption.Mark.{exchanges_in}
use Rattle.mbdc_audit.proofs.consumption.mark.exchanges.Given as goal

abbrev pub invariant-loop-after : goal.invariant-loop-after
invariant-loop-after l =
    (l.count + length (exchanges_in (l.before ∷ drop l.after-index l.later) l.from l.to) ≡ length (exchanges_in l.fn.entries l.from l.to))
    × (l.count ≤ l.after-index)
