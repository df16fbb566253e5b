use Rattle.std.proofs.Common.{Some, ap, sym, ◌∙◌}
use Rattle.dc_meters.specs.Places.{bus_cmp, among}
use Rattle.dc_meters.proofs.PlaceOrder.{own_bus_place, put_in}
use Rattle.dc_meters.proofs.meter_orders.hang.Goals as goal

pub returns-in_ok-insert-clause-bus : goal.returns-in_ok-insert-clause-bus
returns-in_ok-insert-clause-bus g c = λ q.
    c.in_ok-insert.ensures.updates.0 q
    ∙ put_in _ (among bus_cmp c.args.on_bus.now.keys q) _ (own_bus_place c.args.meter c.line.result c.get.result c.args.row.now q (sym c.line.ensures.line) (sym c.in-Some.ensures.address ∙ ap Some (sym c.get.ensures.exact)))
