use Rattle.mbdc_io.proofs.Writes.{written_both, stopped_first, stopped_second}
use Rattle.mbdc_io.proofs.Writes.{on_any_err}
use Rattle.mbdc_change.proofs.command_bytes.encode_swap.Goals as goal

pub returns-in_err-put_byte-clause-err : goal.returns-in_err-put_byte-clause-err
returns-in_err-put_byte-clause-err g c = on_any_err _ (stopped_first _ (stopped_first _ (stopped_first _ (stopped_first _ (c.in_err-put_byte.ensures.err)))))

pub returns-in_err-put_long-clause-err : goal.returns-in_err-put_long-clause-err
returns-in_err-put_long-clause-err g c = on_any_err _ (stopped_first _ (stopped_first _ (stopped_first _ (stopped_second c.in_ok-put_byte.ensures.ok c.in_err-put_long.ensures.err))))

pub returns-in_err-put_identity-clause-err : goal.returns-in_err-put_identity-clause-err
returns-in_err-put_identity-clause-err g c = on_any_err _ (stopped_first _ (stopped_first _ (stopped_second (written_both c.in_ok-put_byte.ensures.ok c.in_ok-put_long.ensures.ok) c.in_err-put_identity.ensures.err)))

pub returns-in_err-put_identity-2-clause-err : goal.returns-in_err-put_identity-2-clause-err
returns-in_err-put_identity-2-clause-err g c = on_any_err _ (stopped_first _ (stopped_second (written_both (written_both c.in_ok-put_byte.ensures.ok c.in_ok-put_long.ensures.ok) c.in_ok-put_identity.ensures.ok) c.in_err-put_identity-2.ensures.err))

pub returns-in_err-put_byte-2-clause-err : goal.returns-in_err-put_byte-2-clause-err
returns-in_err-put_byte-2-clause-err g c = rw (← c.address_number.ensures) (on_any_err _ (stopped_second (written_both (written_both (written_both c.in_ok-put_byte.ensures.ok c.in_ok-put_long.ensures.ok) c.in_ok-put_identity.ensures.ok) c.in_ok-put_identity-2.ensures.ok) c.in_err-put_byte-2.ensures.err))

pub returns-clause-ok : goal.returns-clause-ok
returns-clause-ok g c = rw (← c.address_number.ensures) (written_both (written_both (written_both (written_both c.in_ok-put_byte.ensures.ok c.in_ok-put_long.ensures.ok) c.in_ok-put_identity.ensures.ok) c.in_ok-put_identity-2.ensures.ok) c.in_ok-put_byte-2.ensures.ok)
