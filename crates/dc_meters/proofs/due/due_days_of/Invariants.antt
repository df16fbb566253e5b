use Rattle.std.proofs.Common.{◌≡◌, ◌++◌}
use Rattle.dc_meters.specs.Points.{points_of}
use Rattle.dc_meters.specs.Due.{due_days}
use Rattle.dc_meters.proofs.due.due_days_of.Given as goal

-- those so far, and those that are left
abbrev pub invariant-loop-day : goal.invariant-loop-day
invariant-loop-day g l = l.days.items ++ l.day-iterator ≡ due_days (points_of l.parts)
