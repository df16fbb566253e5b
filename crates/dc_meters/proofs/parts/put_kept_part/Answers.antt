use Rattle.mbdc_io.proofs.Writes.{written_both, stopped_first, stopped_second}
use Rattle.mbdc_io.proofs.Writes.{on_any_err}
use Rattle.mbdc_change.specs.Encoding.{part_bytes}
use Rattle.dc_meters.proofs.parts.put_kept_part.Goals as goal

pub returns-in_err-put_long-clause-err : goal.returns-in_err-put_long-clause-err
unfolding part_bytes
returns-in_err-put_long-clause-err g c = rw (← c.moment.ensures.moment) (on_any_err _ (stopped_first _ (c.in_err-put_long.ensures.err)))

pub returns-in_err-put_counted-clause-err : goal.returns-in_err-put_counted-clause-err
unfolding part_bytes
returns-in_err-put_counted-clause-err g c = rw (← c.moment.ensures.moment, ← c.body.ensures.body) (on_any_err _ (stopped_second c.in_ok-put_long.ensures.ok c.in_err-put_counted.ensures.err))

pub returns-clause-ok : goal.returns-clause-ok
unfolding part_bytes
returns-clause-ok g c = rw (← c.moment.ensures.moment, ← c.body.ensures.body) (written_both c.in_ok-put_long.ensures.ok c.in_ok-put_counted.ensures.ok)
