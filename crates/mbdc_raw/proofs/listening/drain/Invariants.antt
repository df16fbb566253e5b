use Rattle.std.proofs.Common.{◌≡◌, ◌-◌, ◌≤◌}
use Rattle.mbdc_raw.specs.Heard.{most_pieces}
use Rattle.mbdc_raw.proofs.Drops.{Dropped}
use Rattle.mbdc_raw.proofs.listening.drain.Given as goal

abbrev pub invariant-drops : goal.invariant-drops
invariant-drops g l = record {
  few : l.count ≤ most_pieces;
  well : g.W.Wire.failures l.wire ≡ g.W.Wire.failures l.initial.wire;
  left : g.W.Wire.waits_left l.wire ≤ g.W.Wire.waits_left l.initial.wire;
  so : Dropped g.W.Wire.hears l.initial.wire l.initial.state l.initial.late l.count l.wire l.state l.late;
}

abbrev pub decreases-drops : goal.decreases-drops
decreases-drops g l = most_pieces - l.count
