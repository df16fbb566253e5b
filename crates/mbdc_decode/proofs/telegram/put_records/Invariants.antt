use Rattle.std.proofs.Common.{◌≡◌}
use Rattle.std.specs.Io.KnownBytes.{append_known}
use Rattle.mbdc_decode.specs.Telegram.{record_lines}
use Rattle.mbdc_decode.proofs.telegram.put_records.Given as goal

abbrev pub invariant-records : goal.invariant-records
invariant-records g l = record {
  text : append_known (g.W.Sink.written l.out) (record_lines l.found-iterator) ≡ append_known (g.W.Sink.written l.initial.out) (record_lines l.fn.records);
  ok : g.W.Sink.put_failures l.out ≡ g.W.Sink.put_failures l.initial.out;
}
