use Rattle.std.proofs.Common.{◌≡◌, ◌+◌, drop}
use Rattle.std.specs.Io.KnownBytes.{append_known}
use Rattle.dc_upload.specs.Window.{part_lines}
use Rattle.dc_upload.proofs.window.write_parts.Given as goal

abbrev pub invariant-loop-i : goal.invariant-loop-i
invariant-loop-i g l = record {
  text : append_known (g.W.Sink.written l.out) (part_lines (l.i + 1) (drop l.i l.parts)) ≡ append_known (g.W.Sink.written l.initial.out) (part_lines 1 l.parts);
  well : g.W.Sink.put_failures l.out ≡ g.W.Sink.put_failures l.initial.out;
}
