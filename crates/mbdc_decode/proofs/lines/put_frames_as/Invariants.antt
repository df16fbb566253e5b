use Rattle.std.proofs.Common.{◌≡◌, ◌≤◌, length}
use Rattle.std.specs.Prelude.{◌||◌, flat_map}
use Rattle.std.specs.Io.KnownBytes.{append_known}
use Rattle.mbdc_decode.specs.Frames.{frames_of, any_bad}
use Rattle.mbdc_decode.proofs.lines.put_frames_as.Given as goal

abbrev pub invariant-frames : goal.invariant-frames
invariant-frames g l = record {
  within : length l.rest ≤ length l.bytes;
  text : g.F.LineForm.IsDefined → append_known (g.W.Sink.written l.out) (flat_map (g.F.LineForm.frame_text l.number) (frames_of l.rest))
      ≡ append_known (g.W.Sink.written l.initial.out) (flat_map (g.F.LineForm.frame_text l.number) (frames_of l.bytes));
  fault : (l.found || any_bad (frames_of l.rest)) ≡ any_bad (frames_of l.bytes);
  ok : g.F.LineForm.IsDefined → g.W.Sink.put_failures l.out ≡ g.W.Sink.put_failures l.initial.out;
}

abbrev pub decreases-frames : goal.decreases-frames
decreases-frames g l = length l.rest
