use Rattle.mbdc_audit.proofs.Consumed.Known.{never_falls, adds_up}
use Rattle.mbdc_audit.proofs.consumption.laws.no_consumption_is_negative.Goals as goal

pub returns : goal.returns
returns c = record { rises = never_falls; adds = adds_up }
