use Rattle.std.proofs.Common.{◌≡◌, ◌++◌}
use Rattle.std.specs.Char.Escape.{escape_default}
use Rattle.std.specs.Char.Iter.{escape_rest}
use Rattle.std.specs.Io.KnownBytes.{append_known}
use Rattle.std.specs.Str.{encode_utf8_all}
use Rattle.mbdc_ending.proofs.escape.put_escape.Given as goal

-- what was put, and what the escape has left, make the whole
abbrev pub invariant-loop-x : goal.invariant-loop-x
invariant-loop-x g l = record {
  text : g.W.Sink.written l.out ≡ append_known (g.W.Sink.written l.initial.out) (encode_utf8_all l.yielded);
  ok : g.W.Sink.put_failures l.out ≡ g.W.Sink.put_failures l.initial.out;
  whole : l.yielded ++ escape_rest l.x-iterator ≡ escape_default l.fn.c;
}
