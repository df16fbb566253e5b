use Rattle.mbdc_theorems.proofs.Every.{each_is_read}
use Rattle.mbdc_theorems.proofs.poll.laws.every_meter_is_read.Goals as goal

pub returns : goal.returns
returns g c = each_is_read {D = g.row.D.Denot} {B = g.row.B.Denot} {T = g.row.T.Denot} {N = g.row.N.Denot} g.D.Disk g.B.HalfBus g.T.Timer.tells g.T.Timer.passes g.T.Timer.warns g.N.Teller.takes
