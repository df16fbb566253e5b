use Rattle.std.proofs.Common.{◌≡◌, ◌++◌}
use Rattle.std.specs.List.{flat_map}
use Rattle.dc_report.specs.DueTable.{reading_rows}
use Rattle.dc_report.proofs.due.rows.Given as goal

-- the rows so far, and those of the readings that are left, make the whole
abbrev pub invariant-loop-reading : goal.invariant-loop-reading
invariant-loop-reading g l = record {
  can : (goal.iterator-loop-reading g).can_next l.reading-iterator;
  ends : (goal.iterator-loop-reading g).is_finite l.reading-iterator;
  left : l.rows.items ++ flat_map (λ r. reading_rows l.date r.now) l.reading-iterator ≡ flat_map (λ r. reading_rows l.date r.now) l.initial.reading-iterator;
}
