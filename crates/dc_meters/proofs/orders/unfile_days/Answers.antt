use Rattle.std.proofs.Common.{arith}
use Rattle.dc_meters.proofs.FiledDays.{unfiled_day, taken_more}
use Rattle.dc_meters.proofs.orders.unfile_days.Goals as goal

pub loop-day-preserved : goal.loop-day-preserved
loop-day-preserved g c =
    unfiled_day c.loop-day.by_day.keys c.remove.new.self.keys c.args.by_day.now.keys c.args.days.now c.loop-day.day-index c.day-item.result c.args.serial (taken_more c.args.days.now c.loop-day.day-index c.day-item.result (omega arith) c.day-item.is)
    c.loop-day.invariant c.remove.ensures.updates.0
