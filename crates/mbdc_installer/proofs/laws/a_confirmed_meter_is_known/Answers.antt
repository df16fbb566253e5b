use Rattle.std.proofs.Common.{refl}
use Rattle.mbdc_installer.proofs.Confirmings.{known}
use Rattle.mbdc_installer.proofs.laws.a_confirmed_meter_is_known.Goals as goal

pub returns : goal.returns
returns g c = λ meters wire meter is_due old new line confirms. known g.B.Bus.asks_all meters line wire meter is_due confirms refl
