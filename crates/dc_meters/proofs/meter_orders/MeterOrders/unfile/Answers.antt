use Rattle.std.proofs.Common.{sym, ◌∙◌}
use Rattle.dc_meters.specs.Places.{place_cmp, among}
use Rattle.dc_meters.proofs.PlaceOrder.{own_place, taken_out}
use Rattle.dc_meters.proofs.meter_orders.MeterOrders.unfile.Goals as goal

pub returns-clause-flats : goal.returns-clause-flats
returns-clause-flats g c = λ q.
    c.remove.ensures.updates.0 q ∙ taken_out _ (among place_cmp c.args.self.now.by_flat.keys q) _ (own_place c.args.meter c.flat.result c.args.row.now q (sym c.flat.ensures.flat))
