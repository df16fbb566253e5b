use Rattle.std.proofs.Common.{arith}
use Rattle.std.proofs.lemmas.Grind.{common_steps}
use Rattle.dc_meters.proofs.Ascending.{absent_behind}
use Rattle.dc_meters.proofs.Lists.{meter_refused, meter_kept}
use Rattle.dc_meters.proofs.house.decode.each_meter.Goals as goal

pub returns-then-not-is_behind-clause-bad : goal.returns-then-not-is_behind-clause-bad
returns-then-not-is_behind-clause-bad g c = λ bad all end whole ascend.
    meter_refused c.args.count c.args.bytes.now c.loop.meters.entries c.loop.counter c.loop.rest.now c.in_ok-meter.meter c.in_ok-meter.row c.in_ok-meter.after.now all end
    c.loop.invariant c.loop-test.true c.in_ok-meter.ensures (c.is_behind.ensures.no c.if-not-is_behind.true) whole ascend

pub insert-requires : goal.insert-requires
insert-requires g c = record { absent = absent_behind c.loop.meters.entries c.in_ok-meter.meter (c.is_behind.ensures.yes c.if-not-is_behind.false) }

pub loop-preserved : goal.loop-preserved
loop-preserved g c =
    meter_kept c.args.count c.args.bytes.now c.loop.meters.entries c.insert.new.self.entries c.loop.counter c.loop.rest.now c.in_ok-meter.meter c.in_ok-meter.row c.in_ok-meter.after.now
    c.loop.invariant c.loop-test.true c.in_ok-meter.ensures (c.is_behind.ensures.yes c.if-not-is_behind.false) c.in_ok-insert.ensures.entries c.insert.ensures.ordered

pub returns-in_err-insert-clause-bad : goal.returns-in_err-insert-clause-bad
returns-in_err-insert-clause-bad g c = grind (arith, common_steps)
