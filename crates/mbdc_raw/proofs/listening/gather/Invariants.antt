use Rattle.std.proofs.Common.{◌≡◌, ◌-◌, ◌≤◌}
use Rattle.mbdc_raw.specs.Heard.{most_pieces}
use Rattle.mbdc_raw.proofs.Drops.{Gathered}
use Rattle.mbdc_raw.proofs.listening.gather.Given as goal

abbrev pub invariant-pieces : goal.invariant-pieces
invariant-pieces g l = record {
  few : l.count ≤ most_pieces;
  well : g.W.Wire.failures l.wire ≡ g.W.Wire.failures l.initial.wire;
  left : g.W.Wire.waits_left l.wire ≤ g.W.Wire.waits_left l.initial.wire;
  so : Gathered g.W.Wire.hears l.initial.wire l.initial.all l.count l.wire l.all;
}

abbrev pub decreases-pieces : goal.decreases-pieces
decreases-pieces g l = most_pieces - l.count
