-- the exchanges so far, and those of the runs that are left, are those of all runs
use Rattle.std.proofs.Common.{◌≡◌, ◌≤◌, ◌+◌, ◌∷◌, drop, map}
use Rattle.mbdc_audit.specs.Amount.{are_whole, due}
use Rattle.mbdc_audit.specs.View.{known_in, run_of}
use Rattle.mbdc_audit.proofs.curve.Curve.due.Given as goal

abbrev pub invariant-runs : goal.invariant-runs
invariant-runs g l =
    (are_whole l.from l.to (known_in l.self.values.items) l.n (map run_of (l.old ∷ drop l.new-index l.later))
    ≡ are_whole l.from l.to (known_in l.self.values.items) 0 (map run_of l.fn.self.runs.now))
    × (l.count + due l.from l.to (map run_of (l.old ∷ drop l.new-index l.later)) ≡ due l.from l.to (map run_of l.fn.self.runs.now))
    × (l.n ≡ l.new-index) × (l.count ≤ l.new-index)
