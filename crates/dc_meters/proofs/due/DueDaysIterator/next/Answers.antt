use Rattle.std.proofs.Common.{sym, ◌∙◌}
use Rattle.dc_meters.specs.Points.{points_of}
use Rattle.dc_meters.specs.Due.{due_day}
use Rattle.dc_meters.proofs.DueDates.{mapped, skipped}
use Rattle.dc_meters.proofs.due.DueDaysIterator.next.Goals as goal

pub returns-in-Some-due_day-clause-steps : goal.returns-in-Some-due_day-clause-steps
returns-in-Some-due_day-clause-steps g c =
    let day = due_day (points_of c.loop-point.self-inside.dates.now) in
    sym c.self.view_is ∙ sym c.loop-point.invariant
    ∙ mapped day c.loop-point.self-inside.points c.in-Some.point c.next.new.self c.in-Some-due_day.day c.in-Some.ensures.steps (sym c.due_day.ensures ∙ c.in-Some-due_day.is)

pub loop-point-preserved : goal.loop-point-preserved
loop-point-preserved g c =
    let day = due_day (points_of c.loop-point.self-inside.dates.now) in
    sym (skipped day c.loop-point.self-inside.points c.in-Some.point c.next.new.self c.in-Some.ensures.steps (sym c.due_day.ensures ∙ c.in_default-due_day.is))
    ∙ c.loop-point.invariant
