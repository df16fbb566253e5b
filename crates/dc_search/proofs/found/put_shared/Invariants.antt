use Rattle.std.proofs.Common.{◌≡◌, drop}
use Rattle.std.specs.Prelude.{flat_map}
use Rattle.std.specs.Io.KnownBytes.{append_known}
use Rattle.dc_search.specs.Found.{shared_line}
use Rattle.dc_search.proofs.found.put_shared.Given as goal

abbrev pub invariant-loop-number : goal.invariant-loop-number
invariant-loop-number g l = record {
  text : append_known (g.W.Sink.written l.out) (flat_map shared_line (drop l.number-index l.numbers)) ≡ append_known (g.W.Sink.written l.initial.out) (flat_map shared_line l.numbers);
  well : g.W.Sink.put_failures l.out ≡ g.W.Sink.put_failures l.initial.out;
}
