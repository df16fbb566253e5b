use Rattle.std.proofs.Common.{ap, sym, ◌∙◌}
use Rattle.dc_meters.specs.Points.{points_in, points_read}
use Rattle.dc_meters.proofs.points.records_of.Goals as goal

pub returns : goal.returns
returns g c = ap points_in c.records.ensures.list ∙ sym (ap points_read c.telegram.ensures)
