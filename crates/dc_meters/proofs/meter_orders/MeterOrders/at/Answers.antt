use Rattle.std.proofs.Common.{rules, ℕ, filter, ap, ◌∙◌}
use Rattle.dc_meters.specs.Places.{is_on_bus}
use Rattle.dc_meters.proofs.OnBus.{one_address}
use Rattle.dc_meters.proofs.meter_orders.MeterOrders.at.Goals as goal

pub returns-clause-places : goal.returns-clause-places
returns-clause-places g c =
    (search rules) ∙ one_address c.args.line c.get-address.result c.least-meter.result c.args.self.now.on_bus.keys c.least-meter.ensures
    ∙ ap (λ (n : ℕ). filter (is_on_bus c.args.line n) c.args.self.now.on_bus.keys) c.get-address.ensures.exact
