use Rattle.std.proofs.Common.{length}
use Rattle.mbdc_change.proofs.Runs.{IsReadUpTo}
use Rattle.mbdc_change.proofs.decoding.decode_changes.Given as goal

abbrev pub invariant-loop-rest : goal.invariant-loop-rest
invariant-loop-rest g l = IsReadUpTo l.bytes l.changes.items l.rest

abbrev pub decreases-loop-rest : goal.decreases-loop-rest
decreases-loop-rest g l = length l.rest
