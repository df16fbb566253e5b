use Rattle.std.proofs.Common.{rules, ◌≡◌, length}
use Rattle.mbdc_io.proofs.Writes.{written_both, stopped_first, stopped_second}
use Rattle.mbdc_io.proofs.Writes.{on_any_err}
use Rattle.dc_meters.proofs.house.encode.put_readings.Goals as goal

pub returns-in_err-put_count-clause-err : goal.returns-in_err-put_count-clause-err
returns-in_err-put_count-clause-err g c =
    let counted : c.len.result ≡ length c.args.readings.now.items = search rules in
    rw (← counted) (on_any_err _ (stopped_first _ (c.in_err-put_count.ensures.err)))

pub returns-in_err-put_each_reading-clause-err : goal.returns-in_err-put_each_reading-clause-err
returns-in_err-put_each_reading-clause-err g c =
    let counted : c.len.result ≡ length c.args.readings.now.items = search rules in
    rw (← counted) (on_any_err _ (stopped_second c.in_ok-put_count.ensures.ok c.in_err-put_each_reading.ensures.err))

pub returns-clause-ok : goal.returns-clause-ok
returns-clause-ok g c =
    let counted : c.len.result ≡ length c.args.readings.now.items = search rules in
    rw (← counted) (written_both c.in_ok-put_count.ensures.ok c.in_ok-put_each_reading.ensures.ok)
