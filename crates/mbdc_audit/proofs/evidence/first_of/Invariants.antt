-- the records before are none that is meant and counts
use Rattle.std.proofs.Common.{ℕ, take, map}
use Rattle.std.specs.Prelude.{All}
use Rattle.dc_records.specs.Record.{view}
use Rattle.mbdc_audit.specs.Evidence.{IsIt}
use Rattle.mbdc_audit.specs.Walk.{day_meant}
use Rattle.mbdc_audit.proofs.evidence.first_of.Given as goal

abbrev pub invariant-records : goal.invariant-records
invariant-records l = All (λ r. (n : ℕ) → IsIt l.named l.counted (day_meant l.meant) (map view l.records) (view r) n → ⊥)
    (take l.record-index l.records)
