use Rattle.mbdc_audit.proofs.Consumed.Local.{consumption_is_local}
use Rattle.mbdc_audit.proofs.consumption.laws.a_consumption_depends_on_its_window_alone.Goals as goal

pub returns : goal.returns
returns c = consumption_is_local
