use Rattle.std.proofs.Common.{◌∙◌}
use Rattle.dc_meters.specs.Points.{points_of}
use Rattle.dc_meters.specs.Due.{is_due}
use Rattle.dc_meters.proofs.DueDates.{first_kept}
use Rattle.dc_meters.proofs.due.StorageDates.has_value.Goals as goal

pub returns : goal.returns
returns g c =
    let points = points_of c.args.self.now in
    c.is_some.ensures ∙ first_kept (is_due c.args.date points) points c.next.result c.next.new.self (rw c.due_points.ensures at c.next.ensures.steps)
