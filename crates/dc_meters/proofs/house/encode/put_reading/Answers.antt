use Rattle.std.proofs.Common.{arith}
use Rattle.std.proofs.lemmas.Grind.{common_steps}
use Rattle.mbdc_io.proofs.Writes.{written_both, stopped_first, stopped_second, on_any_err}
use Rattle.mbdc_change.specs.Encoding.{reading_bytes}
use Rattle.dc_meters.proofs.house.encode.put_reading.Goals as goal

pub returns-in_err-put_long-clause-err : goal.returns-in_err-put_long-clause-err
unfolding reading_bytes
returns-in_err-put_long-clause-err g c = rw (← c.serial.ensures.serial) (on_any_err _ (stopped_first _ (stopped_first _ (stopped_first _ (c.in_err-put_long.ensures.err)))))

pub returns-in_err-put_identity-clause-err : goal.returns-in_err-put_identity-clause-err
unfolding reading_bytes
returns-in_err-put_identity-clause-err g c = rw (← c.serial.ensures.serial, ← c.meter.ensures) (on_any_err _ (stopped_first _ (stopped_first _ (stopped_second c.in_ok-put_long.ensures.ok c.in_err-put_identity.ensures.err))))

pub returns-in_err-put_counted-clause-err : goal.returns-in_err-put_counted-clause-err
unfolding reading_bytes
returns-in_err-put_counted-clause-err g c = rw (← c.serial.ensures.serial, ← c.meter.ensures, ← c.flat.ensures, ← c.as_slice.ensures.name) (on_any_err _ (stopped_first _ (stopped_second (written_both c.in_ok-put_long.ensures.ok c.in_ok-put_identity.ensures.ok) c.in_err-put_counted.ensures.err)))

pub returns-in_err-put_parts-clause-err : goal.returns-in_err-put_parts-clause-err
unfolding reading_bytes
returns-in_err-put_parts-clause-err g c = rw (← c.serial.ensures.serial, ← c.meter.ensures, ← c.flat.ensures, ← c.as_slice.ensures.name, ← c.parts.ensures.parts) (on_any_err _ (stopped_second (written_both (written_both c.in_ok-put_long.ensures.ok c.in_ok-put_identity.ensures.ok) c.in_ok-put_counted.ensures.ok) c.in_err-put_parts.ensures.err))

pub returns-clause-ok : goal.returns-clause-ok
unfolding reading_bytes
returns-clause-ok g c = rw (← c.serial.ensures.serial, ← c.meter.ensures, ← c.flat.ensures, ← c.as_slice.ensures.name, ← c.parts.ensures.parts) (written_both (written_both (written_both c.in_ok-put_long.ensures.ok c.in_ok-put_identity.ensures.ok) c.in_ok-put_counted.ensures.ok) c.in_ok-put_parts.ensures.ok)

pub put_parts-requires : goal.put_parts-requires
put_parts-requires g c = grind (arith, common_steps)

pub returns-in_err-put_parts-clause-ok : goal.returns-in_err-put_parts-clause-ok
returns-in_err-put_parts-clause-ok g c = grind (arith, common_steps)
