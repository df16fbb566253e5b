use Rattle.std.proofs.lemmas.Result.{err_from_is_err_and}
use Rattle.std.proofs.Common.{arith}
use Rattle.std.proofs.lemmas.Grind.{common_steps}
use Rattle.mbdc_change.specs.Pieces.{many}
use Rattle.mbdc_change.specs.Reading.{reading_at}
use Rattle.dc_meters.proofs.Counts.{ends, is_done}
use Rattle.mbdc_change.proofs.Runs.{bad_exit}
use Rattle.dc_meters.proofs.Lists.{no_readings, reading_refused, reading_kept}
use Rattle.dc_meters.proofs.house.decode.each_reading.Goals as goal

pub loop-init : goal.loop-init
loop-init g c = rw c.new-readings.ensures (no_readings c.args.count c.args.bytes.now c.args.confirmed c.args.next_serial)

pub returns-in_err-reading-clause-bad : goal.returns-in_err-reading-clause-bad
returns-in_err-reading-clause-bad g c = λ bad all end whole ascend.
    let p = err_from_is_err_and c.from_residual.result c.from_residual.ensures.1 in
    let total = many reading_at c.args.count c.args.bytes.now in
    let fails = ends reading_at c.in_err-reading.field-0.0 c.loop.readings.items c.args.count c.loop.counter c.loop.rest.now total c.loop-test.true c.in_err-reading.ensures c.loop.invariant.read in
    let none = bad_exit c.from_residual.result p.0 c.in_err-reading.field-0.0 total p.1 p.2 fails bad in
    cc

pub returns-then-not-is_next_serial-clause-bad : goal.returns-then-not-is_next_serial-clause-bad
returns-then-not-is_next_serial-clause-bad g c = λ bad all end whole ascend.
    reading_refused c.args.count c.args.bytes.now c.args.confirmed c.args.next_serial c.loop.readings.items c.loop.counter c.loop.rest.now c.in_ok-reading.reading c.in_ok-reading.after.now all end
    c.loop.invariant c.loop-test.true c.in_ok-reading.ensures
    (λ is. c.is_next_serial.ensures.no c.if-not-is_next_serial.true (rw c.serial.ensures.serial is)) whole ascend

pub loop-preserved : goal.loop-preserved
loop-preserved g c =
    rw c.in_ok-push.ensures.ok (reading_kept c.args.count c.args.bytes.now c.args.confirmed c.args.next_serial c.loop.readings.items c.loop.counter c.loop.rest.now c.in_ok-reading.reading c.in_ok-reading.after.now
    c.loop.invariant c.loop-test.true c.in_ok-reading.ensures (rw c.serial.ensures.serial at (c.is_next_serial.ensures.yes c.if-not-is_next_serial.false)))

pub returns-clause-found : goal.returns-clause-found
returns-clause-found g c = is_done reading_at c.loop.readings.items c.args.count c.loop.counter c.loop.rest.now (many reading_at c.args.count c.args.bytes.now) c.loop-test.false c.loop.invariant.read

pub returns-in_err-push-clause-bad : goal.returns-in_err-push-clause-bad
returns-in_err-push-clause-bad g c = grind (arith, common_steps)
