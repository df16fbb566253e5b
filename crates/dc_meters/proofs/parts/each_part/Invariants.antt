use Rattle.std.proofs.Common.{◌≡◌, ◌-◌}
use Rattle.mbdc_change.specs.Pieces.{many}
use Rattle.mbdc_change.specs.Reading.{part_at}
use Rattle.dc_meters.proofs.Counts.{with_front}
use Rattle.dc_meters.proofs.parts.each_part.Given as goal

-- the parts so far and those that are still read are all of them
abbrev pub invariant-loop : goal.invariant-loop
invariant-loop g l = with_front l.parts.items (many part_at (l.count - l.counter) l.rest) ≡ many part_at l.count l.bytes
