use Rattle.std.proofs.Common.{length}
use Rattle.mbdc_change.specs.State.{Held}
use Rattle.mbdc_fit.specs.Plan.{AreSteps, Outcome}
use Rattle.mbdc_fit.proofs.list.plan.Plan.add_rows.Given as goal

-- whatever the rest does, the list does with what was done so far
abbrev pub invariant-rows : goal.invariant-rows
invariant-rows g l = (house : Held) (plan : Outcome) → AreSteps l.rest l.house house l.self plan → AreSteps l.rows l.initial.house house l.initial.self plan

abbrev pub decreases-rows : goal.decreases-rows
decreases-rows g l = length l.rest
