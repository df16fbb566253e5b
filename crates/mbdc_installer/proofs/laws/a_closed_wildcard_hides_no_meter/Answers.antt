use Rattle.mbdc_installer.proofs.Others.{hides_none}
use Rattle.mbdc_installer.proofs.laws.a_closed_wildcard_hides_no_meter.Goals as goal

pub returns : goal.returns
returns g c = λ meters line. hides_none g.B.Bus.asks_all meters line
