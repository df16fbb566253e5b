use Rattle.mbdc_theorems.proofs.Houses.{each_reading_is_whole}
use Rattle.mbdc_theorems.proofs.house.laws.each_reading_is_whole.Goals as goal

pub returns : goal.returns
returns c budget sends state turns buses prefix sound house is = each_reading_is_whole budget sends state turns buses prefix sound house is
