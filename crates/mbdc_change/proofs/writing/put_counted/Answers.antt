use Rattle.mbdc_io.proofs.Writes.{written_both, stopped_first, stopped_second}
use Rattle.mbdc_io.proofs.Writes.{on_any_err}
use Rattle.mbdc_change.specs.Pieces.{counted}
use Rattle.mbdc_change.proofs.writing.put_counted.Goals as goal

pub returns-in_err-put_byte-clause-err : goal.returns-in_err-put_byte-clause-err
unfolding counted
returns-in_err-put_byte-clause-err g c = on_any_err _ (stopped_first _ (c.in_err-put_byte.ensures.err))

pub returns-in_err-put-clause-err : goal.returns-in_err-put-clause-err
unfolding counted
returns-in_err-put-clause-err g c = on_any_err _ (stopped_second c.in_ok-put_byte.ensures.ok c.in_err-put.ensures.err)

pub returns-clause-ok : goal.returns-clause-ok
unfolding counted
returns-clause-ok g c = written_both c.in_ok-put_byte.ensures.ok c.in_ok-put.ensures.ok
