use Rattle.std.proofs.Common.{List, ◌≡◌, ◌<◌, ap, subst, sym, ◌∙◌}
use Rattle.std.specs.Prelude.{All}
use Rattle.mbdc_change.specs.State.{ReadingRow, PartRow}
use Rattle.dc_meters.specs.Due.{due_days}
use Rattle.dc_meters.specs.Points.{points_of}
use Rattle.dc_meters.specs.Orders.{ReadingRows}
use Rattle.dc_meters.proofs.Ordered.{unfiled_meter, unfiled_day, ordered_more, ordered_same}
use Rattle.dc_meters.proofs.reading_list.ReadingList.close.Given.{Over}
use Rattle.dc_meters.proofs.reading_list.ReadingList.close.Goals.{After-deref}
use Rattle.dc_meters.proofs.reading_list.ReadingList.close.Goals as goal

later : (g : Over) (c : After-deref g) → All (λ (r : ReadingRow). r.serial < c.args.ended.serial) c.self.inside.items.items
later g c = subst (λ (l : ReadingRows). All (λ (r : ReadingRow). r.serial < c.args.ended.serial) l.items) (sym c.self.view_is) c.requires.later

pub file-requires-clause-no_meter : goal.file-requires-clause-no_meter
file-requires-clause-no_meter g c =
    let inside = c.self.inside in
    unfiled_meter inside.orders.by_meter.keys inside.orders.by_day.keys inside.items.items c.self.invariant c.args.ended.serial (later g c)

pub file-requires-clause-no_day : goal.file-requires-clause-no_day
file-requires-clause-no_day g c =
    let inside = c.self.inside in
    unfiled_day inside.orders.by_meter.keys inside.orders.by_day.keys inside.items.items c.self.invariant c.args.ended.serial (later g c)

pub invariant_of-self-in_err-file : goal.invariant_of-self-in_err-file
invariant_of-self-in_err-file g c =
    let inside = c.self.inside in
    rw c.reserve.ensures.items
    (ordered_same inside.orders.by_meter.keys inside.orders.by_day.keys inside.items.items c.self.invariant c.file.new.self.by_meter.keys c.file.new.self.by_day.keys c.in_err-file.ensures.same_meters c.in_err-file.ensures.same_days)

pub invariant_of-self-2 : goal.invariant_of-self-2
invariant_of-self-2 g c =
    let inside = c.self.inside in
    let row = c.args.row.now in
    let reading : ReadingRow = record { serial = c.args.ended.serial; meter = c.args.ended.meter; flat = row.flat; parts = row.parts } in
    let due : c.deref.result.now ≡ due_days (points_of row.parts) = c.deref.ensures.value ∙ c.in_ok-due_days.ensures ∙ ap (λ (parts : List PartRow). due_days (points_of parts)) c.parts.ensures.parts in
    rw (c.push_back_reserved.ensures.items, c.reserve.ensures.items, c.close-reading.ensures.reading)
    (ordered_more inside.orders.by_meter.keys inside.orders.by_day.keys inside.items.items c.self.invariant c.file.new.self.by_meter.keys c.file.new.self.by_day.keys reading c.deref.result.now (later g (goal.at.invariant_of-self-2 g c).After-deref) c.requires.fits due c.in_ok-file.ensures.meters
    c.in_ok-file.ensures.days)
