use Rattle.std.proofs.Common.{Some, true, ap, sym, ◌∙◌}
use Rattle.std.specs.List.{list_any}
use Rattle.std.specs.Map.{values_of}
use Rattle.mbdc_change.specs.Accepts.{occupies}
use Rattle.dc_meters.specs.Places.{MeterRows, is_on_bus}
use Rattle.dc_meters.proofs.OnBus.{any_on_bus, any_and_all, any_value, first_there}
use Rattle.dc_meters.proofs.meter_map.MeterMap.is_taken.Goals as goal

pub returns : goal.returns
returns g c =
    let inside = c.self.inside in
    let test = is_on_bus c.args.line c.args.address in
    c.is_some.ensures ∙ first_there test inside.orders.on_bus.keys c.next.result c.next.new.self (rw c.at.ensures.places at c.next.ensures.steps)
    ∙ any_and_all test inside.orders.on_bus.keys
    ∙ any_on_bus c.args.line c.args.address (λ meter. true) inside.orders.on_bus.keys inside.rows.entries c.self.invariant.on_bus c.self.invariant.ascend
    ∙ sym (any_value (occupies c.args.line (Some c.args.address)) inside.rows.entries)
    ∙ ap (λ (m : MeterRows). list_any (occupies c.args.line (Some c.args.address)) (values_of m.entries)) c.self.view_is
