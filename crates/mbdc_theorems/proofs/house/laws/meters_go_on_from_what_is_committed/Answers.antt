use Rattle.mbdc_theorems.proofs.Houses.{meters_go_on_from_committed}
use Rattle.mbdc_theorems.proofs.house.laws.meters_go_on_from_what_is_committed.Goals as goal

pub returns : goal.returns
returns c budget sends state turns buses sound house line i s request x = meters_go_on_from_committed budget sends state turns buses sound house line i s request x
