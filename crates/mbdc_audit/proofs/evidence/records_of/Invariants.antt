-- the records so far, and those of the bodies that are left, are those of all
use Rattle.std.proofs.Common.{length, map}
use Rattle.dc_records.specs.Record.{view}
use Rattle.mbdc_audit.proofs.Readouts.{Walked}
use Rattle.mbdc_audit.proofs.evidence.records_of.Given as goal

abbrev pub invariant-bodies : goal.invariant-bodies
invariant-bodies g l = Walked l.run.identity (map (λ b. b.items) l.fn.bodies) (map (λ b. b.items) l.left)
    (map view l.records.items)

abbrev pub decreases-bodies : goal.decreases-bodies
decreases-bodies g l = length l.left
