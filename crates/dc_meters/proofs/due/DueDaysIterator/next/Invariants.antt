use Rattle.std.proofs.Common.{◌≡◌, length}
use Rattle.std.specs.List.{filter_map}
use Rattle.dc_meters.specs.Points.{points_of}
use Rattle.dc_meters.specs.Due.{due_day}
use Rattle.dc_meters.proofs.due.DueDaysIterator.next.Given as goal

-- no point so far is due
abbrev pub invariant-loop-point : goal.invariant-loop-point
invariant-loop-point g l =
    filter_map (due_day (points_of l.self-inside.dates.now)) l.self-inside.points
    ≡ filter_map (due_day (points_of l.initial.self-inside.dates.now)) l.initial.self-inside.points

abbrev pub decreases-loop-point : goal.decreases-loop-point
decreases-loop-point g l = length l.self-inside.points
