use Rattle.std.proofs.Common.{map}
use Rattle.mbdc_decode.specs.Object.{values_tokens}
use Rattle.mbdc_decode.specs.Record.{record_json}
use Rattle.mbdc_decode.proofs.Rests.{Rest}
use Rattle.mbdc_decode.proofs.objects.telegram.put_records.Given as goal

abbrev pub invariant-records : goal.invariant-records
invariant-records g l = Rest g.W.Sink l.initial.out l.out (values_tokens (map record_json l.found-iterator)) (values_tokens (map record_json l.fn.records))
