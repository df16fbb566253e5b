use Rattle.std.proofs.Common.{◌≡◌, ◌-◌, take}
use Rattle.std.specs.Prelude.{flat_map}
use Rattle.std.specs.Io.KnownBytes.{append_known}
use Rattle.std.specs.VecDeque.Iter.{deque_iter_rest}
use Rattle.dc_upload.specs.Window.{reading_lines}
use Rattle.dc_upload.proofs.window.write_readings.Given as goal

abbrev pub invariant-loop : goal.invariant-loop
invariant-loop g l = record {
  text : append_known (g.W.Sink.written l.out) (flat_map reading_lines (take (l.count - l.counter) (deque_iter_rest l.readings))) ≡ append_known (g.W.Sink.written l.initial.out) (flat_map reading_lines (take l.count (deque_iter_rest l.initial.readings)));
  well : g.W.Sink.put_failures l.out ≡ g.W.Sink.put_failures l.initial.out;
}
