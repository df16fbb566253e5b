use Rattle.std.proofs.Common.{◌≡◌}
use Rattle.std.specs.Io.KnownBytes.{append_known}
use Rattle.std.specs.List.{flat_map}
use Rattle.std.specs.Str.{encode_utf8_all}
use Rattle.mbdc_ending.specs.Escape.{shown}
use Rattle.mbdc_ending.proofs.escape.put_escaped.Given as goal

abbrev pub invariant-loop-c : goal.invariant-loop-c
invariant-loop-c g l = record {
  text : g.W.Sink.written l.out ≡ append_known (g.W.Sink.written l.initial.out) (encode_utf8_all (flat_map shown l.yielded));
  ok : g.W.Sink.put_failures l.out ≡ g.W.Sink.put_failures l.initial.out;
}
