use Rattle.std.proofs.Common.{List, ap, ◌∙◌, arith}
use Rattle.dc_meters.specs.Due.{day_cmp}
use Rattle.dc_meters.specs.Orders.{found}
use Rattle.dc_units.specs.Date.{Day}
use Rattle.dc_meters.specs.declared.filed.Filed.{Filed}
use Rattle.dc_meters.proofs.FiledDays.{filed_day, filed_back, taken_more}
use Rattle.dc_meters.proofs.orders.file_days.Goals as goal

pub returns-in-Err-clause-same : goal.returns-in-Err-clause-same
returns-in-Err-clause-same g c =
    filed_back c.insert.new.self.keys c.unfile_days.new.by_day.keys c.args.by_day.now.keys c.args.days.now c.loop-day.day-index c.args.serial c.requires
    (λ q. ap (λ (keys : List (Filed Day)). found day_cmp keys q) c.in-Err.ensures.err ∙ c.loop-day.invariant q) c.unfile_days.ensures

pub loop-day-preserved : goal.loop-day-preserved
loop-day-preserved g c =
    filed_day c.loop-day.by_day.keys c.insert.new.self.keys c.args.by_day.now.keys c.args.days.now c.loop-day.day-index c.day-item.result c.args.serial (taken_more c.args.days.now c.loop-day.day-index c.day-item.result (omega arith) c.day-item.is)
    c.loop-day.invariant c.in-Ok.ensures.updates.0
