use Rattle.mbdc_theorems.proofs.HouseLife.{premises_are_met}
use Rattle.mbdc_theorems.proofs.ThreeMeters.{three_are_read}
use Rattle.mbdc_theorems.proofs.house.laws.a_meter_of_a_house_may_be_read.Goals as goal

pub returns : goal.returns
returns c = (premises_are_met, three_are_read)
