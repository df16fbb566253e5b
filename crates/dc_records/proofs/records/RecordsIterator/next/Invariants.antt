use Rattle.std.proofs.Common.{◌≡◌, length}
use Rattle.dc_records.specs.Body.{content_at}
use Rattle.dc_records.proofs.records.RecordsIterator.next.Given as goal

abbrev pub invariant-fronts : goal.invariant-fronts
invariant-fronts l = content_at l.self-inside.left.now ≡ content_at l.initial.self-inside.left.now

abbrev pub decreases-fronts : goal.decreases-fronts
decreases-fronts l = length l.self-inside.left.now
