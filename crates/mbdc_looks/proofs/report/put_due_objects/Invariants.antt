use Rattle.std.proofs.Common.{◌≡◌, drop}
use Rattle.std.specs.List.{flat_map}
use Rattle.std.specs.Io.KnownBytes.{append_known}
use Rattle.mbdc_looks.specs.Report.{row_line}
use Rattle.mbdc_looks.proofs.report.put_due_objects.Given as goal

-- the lines so far, and those of the rows that are left, make the whole
abbrev pub invariant-loop-row : goal.invariant-loop-row
invariant-loop-row g l = record {
  text : append_known (g.W.Sink.written l.out) (flat_map (row_line l.date) (drop l.row-index l.rows)) ≡ append_known (g.W.Sink.written l.initial.out) (flat_map (row_line l.date) l.rows);
  well : g.W.Sink.put_failures l.out ≡ g.W.Sink.put_failures l.initial.out;
}
