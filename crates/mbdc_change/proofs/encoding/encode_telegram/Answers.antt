use Rattle.mbdc_io.proofs.Writes.{written_both, stopped_first, stopped_second}
use Rattle.mbdc_io.proofs.Writes.{on_any_err}
use Rattle.mbdc_change.proofs.encoding.encode_telegram.Goals as goal

pub returns-in_err-put_byte-clause-err : goal.returns-in_err-put_byte-clause-err
returns-in_err-put_byte-clause-err g c = on_any_err _ (stopped_first _ (stopped_first _ (c.in_err-put_byte.ensures.err)))

pub returns-in_err-put_byte-2-clause-err : goal.returns-in_err-put_byte-2-clause-err
returns-in_err-put_byte-2-clause-err g c = on_any_err _ (stopped_first _ (stopped_second c.in_ok-put_byte.ensures.ok c.in_err-put_byte-2.ensures.err))

pub returns-in_err-put_part-clause-err : goal.returns-in_err-put_part-clause-err
returns-in_err-put_part-clause-err g c = rw (← c.as_slice.ensures.bytes) (on_any_err _ (stopped_second (written_both c.in_ok-put_byte.ensures.ok c.in_ok-put_byte-2.ensures.ok) c.in_err-put_part.ensures.err))

pub returns-clause-ok : goal.returns-clause-ok
returns-clause-ok g c = rw (← c.as_slice.ensures.bytes) (written_both (written_both c.in_ok-put_byte.ensures.ok c.in_ok-put_byte-2.ensures.ok) c.in_ok-put_part.ensures.ok)
