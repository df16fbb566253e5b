use Rattle.mbdc_audit.proofs.Consumed.Known.{known_iff}
use Rattle.mbdc_audit.proofs.consumption.laws.a_curve_is_known_between_its_entries.Goals as goal

pub returns : goal.returns
returns c = known_iff
