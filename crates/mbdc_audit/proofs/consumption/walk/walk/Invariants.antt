-- the entries that are passed are before the moment, and their steps are summed
use Rattle.std.proofs.Common.{◌-◌, length}
use Rattle.mbdc_audit.proofs.Consumed.Walks.{IsOnWalk}
use Rattle.mbdc_audit.proofs.consumption.walk.walk.Given as goal

abbrev pub invariant-loop-count : goal.invariant-loop-count
invariant-loop-count l = IsOnWalk l.moment l.entries l.count l.sum

abbrev pub decreases-loop-count : goal.decreases-loop-count
decreases-loop-count l = length l.entries - l.count
