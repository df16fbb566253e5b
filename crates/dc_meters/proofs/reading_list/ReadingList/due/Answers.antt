use Rattle.std.proofs.Common.{ap, ◌∙◌}
use Rattle.dc_meters.specs.Due.{day_cmp, has_value}
use Rattle.dc_meters.specs.Orders.{ReadingRows, due_serials}
use Rattle.dc_meters.proofs.FiledDays.{days_total}
use Rattle.dc_meters.proofs.UnderKeys.{serials_are}
use Rattle.dc_meters.proofs.reading_list.ReadingList.due.Goals as goal

pub returns : goal.returns
returns g c =
    let inside = c.self.inside in
    let kept = c.self.invariant in
    c.under.ensures.serials
    ∙ serials_are day_cmp days_total has_value c.args.date inside.orders.by_day.keys inside.items.items kept.of_days kept.fit c.under.ensures.ordered kept.ascend
    ∙ ap (λ (r : ReadingRows). due_serials c.args.date r.items) c.self.view_is
