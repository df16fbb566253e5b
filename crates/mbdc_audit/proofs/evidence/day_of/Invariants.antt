-- the days that records date are those of the records that are left
use Rattle.std.proofs.Common.{◌≡◌, drop, map}
use Rattle.dc_records.specs.Record.{view}
use Rattle.mbdc_audit.specs.Dates.{days}
use Rattle.mbdc_audit.proofs.evidence.day_of.Given as goal

abbrev pub invariant-records : goal.invariant-records
invariant-records l = days l.storage (map view (drop l.record-index l.records)) ≡ days l.storage (map view l.fn.records)
