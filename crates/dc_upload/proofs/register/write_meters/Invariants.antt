use Rattle.std.proofs.Common.{◌≡◌}
use Rattle.std.specs.Prelude.{flat_map}
use Rattle.std.specs.Io.KnownBytes.{append_known}
use Rattle.dc_upload.specs.Register.{meter_line}
use Rattle.dc_upload.proofs.register.write_meters.Given as goal

abbrev pub invariant-loop-meter : goal.invariant-loop-meter
invariant-loop-meter g l = record {
  text : append_known (g.W.Sink.written l.out) (flat_map meter_line l.meter-iterator) ≡ append_known (g.W.Sink.written l.initial.out) (flat_map meter_line l.initial.meter-iterator);
  well : g.W.Sink.put_failures l.out ≡ g.W.Sink.put_failures l.initial.out;
}
