use Rattle.std.proofs.Common.{◌≡◌, ◌∷◌, subst, arith}
use Rattle.std.proofs.lemmas.Grind.{common_steps}
use Rattle.mbdc_change.specs.State.{ReadingRow}
use Rattle.dc_meters.specs.Orders.{AreOrdered}
use Rattle.dc_meters.proofs.FromSerial.{all_stay}
use Rattle.dc_meters.proofs.Ordered.{ordered_less}
use Rattle.dc_meters.proofs.reading_list.ReadingList.pop_up_to.Goals as goal

pub returns-then-serial-clause-stay : goal.returns-then-serial-clause-stay
returns-then-serial-clause-stay g c =
    rw (← c.self.view_is) (all_stay c.args.serial c.self.inside.items.items c.in_ok-front.field-0.now c.in_ok-front.ensures.lookup (rw c.serial.ensures.serial at c.if-serial.true) c.self.invariant.ascend)

pub invariant_of-self-2 : goal.invariant_of-self-2
invariant_of-self-2 g c =
    let inside = c.self.inside in
    let r : ReadingRow = c.in_ok-reading.reading in
    let meters = rw (c.meter.ensures, c.serial-2.ensures.serial) at c.unfile.ensures.meters in
    let days = rw c.serial-2.ensures.serial at c.unfile.ensures.days in
    let items : inside.items.items ≡ r ∷ c.pop_front.new.self.items = c.in_ok-reading.ensures.items in
    ordered_less inside.orders.by_meter.keys c.unfile.new.self.by_meter.keys inside.orders.by_day.keys c.unfile.new.self.by_day.keys r c.pop_front.new.self.items c.due_days.result.now
    (subst (AreOrdered inside.orders.by_meter.keys inside.orders.by_day.keys) items c.self.invariant) c.due_days.ensures meters days

pub returns-in_err-front-clause-stay : goal.returns-in_err-front-clause-stay
returns-in_err-front-clause-stay g c = grind (arith, common_steps)

pub returns-in_err-reading-clause-none : goal.returns-in_err-reading-clause-none
returns-in_err-reading-clause-none g c = grind (arith, common_steps)

pub returns-in_err-reading-clause-stay : goal.returns-in_err-reading-clause-stay
returns-in_err-reading-clause-stay g c = grind (arith, common_steps)

pub returns-clause-first : goal.returns-clause-first
returns-clause-first g c = grind (arith, common_steps)

pub returns-clause-low : goal.returns-clause-low
returns-clause-low g c = grind (arith, common_steps)
