use Rattle.std.proofs.Common.{◌≡◌, ◌≤◌, ◌+◌, length}
use Rattle.std.specs.Prelude.{◌||◌}
use Rattle.std.specs.Io.KnownBytes.{append_known}
use Rattle.mbdc_io.specs.Lines.{lines_of, longest_input_line, most_spelled}
use Rattle.mbdc_decode.specs.Text.{has_fault}
use Rattle.mbdc_decode.specs.Form.{lines_as, text_as}
use Rattle.mbdc_decode.proofs.lines.put_lines_as.Given as goal

abbrev pub invariant-lines : goal.invariant-lines
invariant-lines g l = record {
  digits : longest_input_line ≤ length l.digits;
  bytes : most_spelled ≤ length l.bytes;
  number : l.number + length l.left ≤ 1 + length l.input;
  text : g.F.LineForm.IsDefined → append_known (g.W.Sink.written l.out) (lines_as g.F.LineForm l.number (lines_of l.left))
      ≡ append_known (g.W.Sink.written l.initial.out) (text_as g.F.LineForm l.input);
  fault : (l.any || has_fault l.left) ≡ has_fault l.input;
  ok : g.F.LineForm.IsDefined → g.W.Sink.put_failures l.out ≡ g.W.Sink.put_failures l.initial.out;
}

abbrev pub decreases-lines : goal.decreases-lines
decreases-lines g l = length l.left
