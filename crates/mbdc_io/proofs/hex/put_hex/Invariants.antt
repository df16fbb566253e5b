use Rattle.std.proofs.Common.{◌≡◌, take}
use Rattle.std.specs.Io.KnownBytes.{append_known}
use Rattle.mbdc_io.specs.Hex.{upper_hex}
use Rattle.mbdc_io.proofs.hex.put_hex.Given as goal

abbrev pub invariant-bytes : goal.invariant-bytes
invariant-bytes g l = record {
  text : g.W.Sink.written l.out ≡ append_known (g.W.Sink.written l.initial.out) (upper_hex (take l.byte-index l.bytes));
  ok : g.W.Sink.put_failures l.out ≡ g.W.Sink.put_failures l.initial.out;
}
