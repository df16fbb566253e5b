use Rattle.std.proofs.Common.{ap, ◌∙◌}
use Rattle.dc_meters.specs.Places.{MeterRows, by_flat}
use Rattle.dc_meters.proofs.Indexed.{by_flat_is}
use Rattle.dc_meters.proofs.meter_map.MeterMap.by_flat.Goals as goal

pub returns : goal.returns
returns g c =
    let inside = c.self.inside in
    c.iter.ensures.rest ∙ by_flat_is inside.orders.by_flat.keys inside.orders.on_bus.keys inside.rows.entries c.iter.ensures.ordered c.self.invariant
    ∙ ap (λ (m : MeterRows). by_flat m.entries) c.self.view_is
