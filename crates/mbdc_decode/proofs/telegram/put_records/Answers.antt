use Rattle.std.proofs.Common.{arith}
use Rattle.mbdc_io.proofs.Pieces.{written}
use Rattle.mbdc_decode.proofs.Records.{records}
use Rattle.mbdc_decode.proofs.telegram.put_records.Goals as goal

pub records-preserved : goal.records-preserved
records-preserved g c = grind (arith, written, records)

pub returns-in_err-put_record : goal.returns-in_err-put_record
returns-in_err-put_record g c = grind (arith, written, records)

pub returns : goal.returns
returns g c = grind (arith, written, records)
