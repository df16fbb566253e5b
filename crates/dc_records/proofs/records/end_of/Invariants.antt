use Rattle.std.proofs.Common.{◌≡◌, length}
use Rattle.dc_records.specs.Body.{content_at, end_in}
use Rattle.dc_records.proofs.records.end_of.Given as goal

abbrev pub invariant-fronts : goal.invariant-fronts
invariant-fronts l = end_in (content_at l.left) ≡ end_in (content_at l.bytes)

abbrev pub decreases-fronts : goal.decreases-fronts
decreases-fronts l = length l.left
