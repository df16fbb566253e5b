use Rattle.std.proofs.Common.{Some, ap, sym, ◌∙◌}
use Rattle.dc_meters.specs.Places.{bus_cmp, among}
use Rattle.dc_meters.proofs.PlaceOrder.{own_bus_place, taken_out}
use Rattle.dc_meters.proofs.meter_orders.unhang.Goals as goal

pub returns-in-Some : goal.returns-in-Some
returns-in-Some g c = λ q.
    c.remove.ensures.updates.0 q
    ∙ taken_out _ (among bus_cmp c.args.on_bus.now.keys q) _ (own_bus_place c.args.meter c.line.result c.get.result c.args.row.now q (sym c.line.ensures.line) (sym c.in-Some.ensures.address ∙ ap Some (sym c.get.ensures.exact)))
