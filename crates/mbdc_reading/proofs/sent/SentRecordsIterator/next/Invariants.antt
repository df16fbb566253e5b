use Rattle.std.proofs.Common.{◌≡◌, length}
use Rattle.mbdc_reading.specs.Sent.{read_at}
use Rattle.mbdc_reading.proofs.sent.SentRecordsIterator.next.Given as goal

abbrev pub invariant-fronts : goal.invariant-fronts
invariant-fronts l = read_at l.self-inside.left.now ≡ read_at l.initial.self-inside.left.now

abbrev pub decreases-fronts : goal.decreases-fronts
decreases-fronts l = length l.self-inside.left.now
