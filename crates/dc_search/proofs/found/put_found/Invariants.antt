use Rattle.std.proofs.Common.{◌≡◌, drop}
use Rattle.std.specs.Prelude.{flat_map}
use Rattle.std.specs.Io.KnownBytes.{append_known}
use Rattle.dc_search.specs.Found.{found_line}
use Rattle.dc_search.proofs.found.put_found.Given as goal

abbrev pub invariant-loop-meter : goal.invariant-loop-meter
invariant-loop-meter g l = record {
  text : append_known (g.W.Sink.written l.out) (flat_map found_line (drop l.meter-index l.meters)) ≡ append_known (g.W.Sink.written l.initial.out) (flat_map found_line l.meters);
  well : g.W.Sink.put_failures l.out ≡ g.W.Sink.put_failures l.initial.out;
}
