use Rattle.std.proofs.Common.{◌≡◌, ◌+◌, ◌-◌, ◌≤◌, false, length}
use Rattle.mbdc_bus.specs.Limits.{most_answer}
use Rattle.mbdc_raw.specs.Heard.{wanted_of}
use Rattle.mbdc_raw.proofs.Pieces.{SoFar}
use Rattle.mbdc_raw.proofs.listening.hear.Given as goal

abbrev pub invariant-pieces : goal.invariant-pieces
invariant-pieces g l = record {
  wants : l.count ≡ wanted_of l.hearing.request l.hearing.bytes;
  fits : length l.hearing.bytes + l.count ≤ length l.hearing.request + most_answer;
  well : g.W.Wire.failures l.wire ≡ g.W.Wire.failures l.initial.wire;
  left : g.W.Wire.waits_left l.wire ≤ g.W.Wire.waits_left l.initial.wire;
  soon : l.early ≡ false;
  so : SoFar g.W.Wire.hears l.initial.wire l.initial.hearing l.wire l.hearing;
}

abbrev pub decreases-pieces : goal.decreases-pieces
decreases-pieces g l = length l.hearing.request + most_answer - length l.hearing.bytes
