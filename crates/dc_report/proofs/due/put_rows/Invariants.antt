use Rattle.std.proofs.Common.{◌≡◌, ◌++◌, drop}
use Rattle.std.specs.List.{flat_map}
use Rattle.dc_report.specs.Written.{so_far, IsAtLine}
use Rattle.dc_report.specs.DueTable.{due_line}
use Rattle.dc_report.proofs.due.put_rows.Given as goal

-- the lines so far, and those of the rows that are left, make the whole
abbrev pub invariant-loop-row : goal.invariant-loop-row
invariant-loop-row g l = record {
  ready : IsAtLine l.table;
  text : so_far (λ v. v.items) l.table ++ flat_map due_line (drop l.row-index l.rows) ≡ so_far (λ v. v.items) l.initial.table ++ flat_map due_line l.rows;
}
