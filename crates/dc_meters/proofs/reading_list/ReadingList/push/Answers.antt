use Rattle.std.proofs.Common.{◌<◌, subst, sym}
use Rattle.std.specs.Prelude.{All}
use Rattle.mbdc_change.specs.State.{ReadingRow}
use Rattle.dc_meters.specs.Orders.{ReadingRows}
use Rattle.dc_meters.proofs.Ordered.{unfiled_meter, unfiled_day, ordered_more, ordered_same}
use Rattle.dc_meters.proofs.reading_list.ReadingList.push.Given.{Over}
use Rattle.dc_meters.proofs.reading_list.ReadingList.push.Goals.{After-due_days}
use Rattle.dc_meters.proofs.reading_list.ReadingList.push.Goals as goal

later : (g : Over) (c : After-due_days g) → All (λ (r : ReadingRow). r.serial < c.args.reading.serial) c.self.inside.items.items
later g c = subst (λ (l : ReadingRows). All (λ (r : ReadingRow). r.serial < c.args.reading.serial) l.items) (sym c.self.view_is) c.requires.later

pub file-requires-clause-no_meter : goal.file-requires-clause-no_meter
file-requires-clause-no_meter g c =
    let inside = c.self.inside in
    rw c.serial.ensures.serial (unfiled_meter inside.orders.by_meter.keys inside.orders.by_day.keys inside.items.items c.self.invariant c.args.reading.serial (later g c))

pub file-requires-clause-no_day : goal.file-requires-clause-no_day
file-requires-clause-no_day g c =
    let inside = c.self.inside in
    rw c.serial.ensures.serial (unfiled_day inside.orders.by_meter.keys inside.orders.by_day.keys inside.items.items c.self.invariant c.args.reading.serial (later g c))

pub invariant_of-self-in_err-file : goal.invariant_of-self-in_err-file
invariant_of-self-in_err-file g c =
    let inside = c.self.inside in
    rw c.reserve.ensures.items
    (ordered_same inside.orders.by_meter.keys inside.orders.by_day.keys inside.items.items c.self.invariant c.file.new.self.by_meter.keys c.file.new.self.by_day.keys c.in_err-file.ensures.same_meters c.in_err-file.ensures.same_days)

pub invariant_of-self-2 : goal.invariant_of-self-2
invariant_of-self-2 g c =
    let inside = c.self.inside in
    let meters = rw (c.meter.ensures, c.serial.ensures.serial) at c.in_ok-file.ensures.meters in
    let days = rw c.serial.ensures.serial at c.in_ok-file.ensures.days in
    rw (c.push_back_reserved.ensures.items, c.reserve.ensures.items)
    (ordered_more inside.orders.by_meter.keys inside.orders.by_day.keys inside.items.items c.self.invariant c.file.new.self.by_meter.keys c.file.new.self.by_day.keys c.args.reading c.due_days.result.now (later g (goal.at.invariant_of-self-2 g c).After-due_days) (rw c.serial.ensures.serial at c.serial.type_inv)
    c.due_days.ensures meters days)
