use Rattle.std.proofs.Common.{◌≡◌}
use Rattle.dc_meters.specs.Points.{points_in}
use Rattle.dc_meters.proofs.points.next_in.Given as goal

-- no record so far is a point
abbrev pub invariant-loop-found : goal.invariant-loop-found
invariant-loop-found l = record {
  can : (goal.iterator-loop-found).can_next l.records;
  ends : (goal.iterator-loop-found).is_finite l.records;
  left : points_in l.records ≡ points_in l.initial.records;
}
