use Rattle.std.proofs.Common.{◌≡◌, ◌++◌, map}
use Rattle.dc_report.specs.DueTable.{row_of}
use Rattle.dc_report.proofs.due.push_rows.Given as goal

-- the rows so far, and those of the points that are left, make the whole
abbrev pub invariant-loop-point : goal.invariant-loop-point
invariant-loop-point g l = record {
  can : (goal.iterator-loop-point g).can_next l.point-iterator;
  ends : (goal.iterator-loop-point g).is_finite l.point-iterator;
  left : l.rows.items ++ map (row_of l.reading) l.point-iterator ≡ l.initial.rows.items ++ map (row_of l.reading) l.initial.point-iterator;
}
