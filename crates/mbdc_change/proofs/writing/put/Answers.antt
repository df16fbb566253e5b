use Rattle.std.proofs.Common.{arith}
use Rattle.mbdc_io.proofs.Writes.{written_one, stopped_one}
use Rattle.mbdc_change.proofs.writing.put.Goals as goal

pub returns-clause-ok : goal.returns-clause-ok
returns-clause-ok g c = written_one c.args.sink.now c.put.new.self c.args.bytes.now c.in_ok-put.ensures.bytes c.in_ok-put.ensures.well c.in_ok-put.ensures.step

pub returns-in_err-put-clause-err : goal.returns-in_err-put-clause-err
returns-in_err-put-clause-err g c = grind (arith, written_one, stopped_one)
