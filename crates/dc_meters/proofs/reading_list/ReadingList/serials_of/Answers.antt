use Rattle.std.proofs.Common.{ap, ◌∙◌}
use Rattle.dc_address.specs.Identity.{identity_cmp}
use Rattle.dc_meters.specs.Orders.{ReadingRows, is_of, serials_of}
use Rattle.dc_address.proofs.Order.{identities_total}
use Rattle.dc_meters.proofs.UnderKeys.{serials_are}
use Rattle.dc_meters.proofs.reading_list.ReadingList.serials_of.Goals as goal

pub returns : goal.returns
returns g c =
    let inside = c.self.inside in
    let kept = c.self.invariant in
    c.under.ensures.serials
    ∙ serials_are identity_cmp identities_total is_of c.args.meter inside.orders.by_meter.keys inside.items.items kept.of_meters kept.fit c.under.ensures.ordered kept.ascend
    ∙ ap (λ (r : ReadingRows). serials_of c.args.meter r.items) c.self.view_is
