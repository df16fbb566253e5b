use Rattle.std.proofs.Common.{◌≡◌, ◌++◌, length}
use Rattle.dc_meters.specs.Points.{points_left, points_of}
use Rattle.dc_meters.proofs.points.PointsIterator.next.Given as goal

-- no part so far has a point
abbrev pub invariant-parts : goal.invariant-parts
invariant-parts g l = points_left l.self-inside.records ++ points_of l.self-inside.parts.now ≡ points_left l.initial.self-inside.records ++ points_of l.initial.self-inside.parts.now

abbrev pub decreases-parts : goal.decreases-parts
decreases-parts g l = length l.self-inside.parts.now
