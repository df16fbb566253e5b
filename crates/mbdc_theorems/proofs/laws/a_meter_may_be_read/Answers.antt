use Rattle.mbdc_theorems.proofs.Example.{premises_are_met}
use Rattle.mbdc_theorems.proofs.laws.a_meter_may_be_read.Goals as goal

pub returns : goal.returns
returns c = premises_are_met
