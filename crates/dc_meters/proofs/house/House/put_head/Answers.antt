use Rattle.mbdc_io.proofs.Writes.{written_both, stopped_first, stopped_second}
use Rattle.mbdc_io.proofs.Writes.{on_any_err}
use Rattle.dc_meters.proofs.house.House.put_head.Goals as goal

pub returns-in_err-put_long-clause-err : goal.returns-in_err-put_long-clause-err
returns-in_err-put_long-clause-err g c = rw (← c.next_serial.ensures.serial) (on_any_err _ (stopped_first _ (stopped_first _ (stopped_first _ (c.in_err-put_long.ensures.err)))))

pub returns-in_err-put_long-2-clause-err : goal.returns-in_err-put_long-2-clause-err
returns-in_err-put_long-2-clause-err g c = rw (← c.next_serial.ensures.serial, ← c.confirmed.ensures.serial) (on_any_err _ (stopped_first _ (stopped_first _ (stopped_second c.in_ok-put_long.ensures.ok c.in_err-put_long-2.ensures.err))))

pub returns-in_err-put_long-3-clause-err : goal.returns-in_err-put_long-3-clause-err
returns-in_err-put_long-3-clause-err g c = rw (← c.next_serial.ensures.serial, ← c.confirmed.ensures.serial, ← c.last_number.ensures.number) (on_any_err _ (stopped_first _ (stopped_second (written_both c.in_ok-put_long.ensures.ok c.in_ok-put_long-2.ensures.ok) c.in_err-put_long-3.ensures.err)))

pub returns-in_err-put_counted-clause-err : goal.returns-in_err-put_counted-clause-err
returns-in_err-put_counted-clause-err g c = rw (← c.next_serial.ensures.serial, ← c.confirmed.ensures.serial, ← c.last_number.ensures.number, ← c.last_line.ensures.line) (on_any_err _ (stopped_second (written_both (written_both c.in_ok-put_long.ensures.ok c.in_ok-put_long-2.ensures.ok) c.in_ok-put_long-3.ensures.ok) c.in_err-put_counted.ensures.err))

pub returns-clause-ok : goal.returns-clause-ok
returns-clause-ok g c = rw (← c.next_serial.ensures.serial, ← c.confirmed.ensures.serial, ← c.last_number.ensures.number, ← c.last_line.ensures.line) (written_both (written_both (written_both c.in_ok-put_long.ensures.ok c.in_ok-put_long-2.ensures.ok) c.in_ok-put_long-3.ensures.ok) c.in_ok-put_counted.ensures.ok)
