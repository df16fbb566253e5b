use Rattle.std.proofs.Common.{◌≡◌, take}
use Rattle.std.specs.Prelude.{◌||◌}
use Rattle.dc_units.specs.Date.{Day}
use Rattle.dc_meters.specs.declared.filed.Filed.{Filed}
use Rattle.dc_meters.specs.Due.{day_cmp}
use Rattle.dc_meters.specs.Orders.{found, is_under_days}
use Rattle.dc_meters.proofs.orders.file_days.Given as goal

abbrev pub invariant-loop-day : goal.invariant-loop-day
invariant-loop-day g l = (q : Filed Day) → found day_cmp l.by_day.keys q ≡ (found day_cmp l.initial.by_day.keys q || is_under_days (take l.day-index l.days) l.serial q)
