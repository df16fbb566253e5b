use Rattle.std.proofs.Common.{◌≡◌, length}
use Rattle.mbdc_reading.specs.Sent.{end_at}
use Rattle.mbdc_reading.proofs.sent.end_of.Given as goal

abbrev pub invariant-fronts : goal.invariant-fronts
invariant-fronts l = end_at l.left ≡ end_at l.bytes

abbrev pub decreases-fronts : goal.decreases-fronts
decreases-fronts l = length l.left
