use Rattle.std.proofs.Common.{◌≡◌, length, filter}
use Rattle.dc_meters.specs.Points.{points_of}
use Rattle.dc_meters.specs.Due.{is_due}
use Rattle.dc_meters.proofs.due.DuePointsIterator.next.Given as goal

-- no point so far is due
abbrev pub invariant-loop-point : goal.invariant-loop-point
invariant-loop-point g l =
    filter (is_due l.self-inside.date (points_of l.self-inside.dates.now)) l.self-inside.points
    ≡ filter (is_due l.initial.self-inside.date (points_of l.initial.self-inside.dates.now)) l.initial.self-inside.points

abbrev pub decreases-loop-point : goal.decreases-loop-point
decreases-loop-point g l = length l.self-inside.points
