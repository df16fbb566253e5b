use Rattle.std.proofs.Common.{sym, ◌∙◌}
use Rattle.dc_meters.specs.Points.{points_of}
use Rattle.dc_meters.specs.Due.{is_due}
use Rattle.dc_meters.proofs.DueDates.{kept, passed}
use Rattle.dc_meters.proofs.due.DuePointsIterator.next.Goals as goal

pub returns-then-is_due-clause-steps : goal.returns-then-is_due-clause-steps
returns-then-is_due-clause-steps g c =
    let due = is_due c.loop-point.self-inside.date (points_of c.loop-point.self-inside.dates.now) in
    sym c.self.view_is ∙ sym c.loop-point.invariant
    ∙ kept due c.loop-point.self-inside.points c.in-Some.point c.next.new.self c.in-Some.ensures.steps (sym c.is_due.ensures ∙ c.if-is_due.true)

pub loop-point-preserved : goal.loop-point-preserved
loop-point-preserved g c =
    let due = is_due c.loop-point.self-inside.date (points_of c.loop-point.self-inside.dates.now) in
    sym (passed due c.loop-point.self-inside.points c.in-Some.point c.next.new.self c.in-Some.ensures.steps (sym c.is_due.ensures ∙ c.if-is_due.false))
    ∙ c.loop-point.invariant
