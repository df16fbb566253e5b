-- What is asked of a register, and what that comes to (this product).
use Rattle.mbdc_change.specs.State.{Held}
use Rattle.mbdc_fit.specs.Order.{IsOrdered}
use Rattle.mbdc_fit.specs.Plan.{IsPlanned, Outcome}
use Rattle.mbdc_fit.specs.declared.list.wish.Wish.{Wish}
use Rattle.mbdc_fit.specs.declared.list.wish.Wish.TheVariants.{List, One}

abbrev pub IsMetBy : Wish → Held → Outcome → Type 0
IsMetBy (List list) house outcome = IsPlanned list.now house outcome
IsMetBy (One order) house outcome = IsOrdered order house outcome
