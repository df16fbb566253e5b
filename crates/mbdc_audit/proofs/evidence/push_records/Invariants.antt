-- the records so far are those before, and of the telegram's so far those of the whole meter
use Rattle.std.proofs.Common.{◌≡◌, ◌++◌, filter, map}
use Rattle.dc_records.specs.Record.{view}
use Rattle.mbdc_audit.specs.Evidence.{is_main}
use Rattle.mbdc_audit.proofs.evidence.push_records.Given as goal

abbrev pub invariant-records : goal.invariant-records
invariant-records g l = map view l.records.items
    ≡ map view l.fn.records.items ++ filter is_main (map view l.yielded)
