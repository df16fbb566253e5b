use Rattle.std.proofs.Common.{◌≡◌, Some, sym, ◌∙◌, arith}
use Rattle.std.specs.Map.{lookup}
use Rattle.std.specs.BTreeMap.{is_at}
use Rattle.std.proofs.lemmas.Grind.{common_steps}
use Rattle.dc_address.specs.Identity.{identity_cmp}
use Rattle.dc_meters.proofs.Indexed.{indexed_less}
use Rattle.dc_meters.proofs.meter_map.MeterMap.remove.Goals as goal

pub invariant_of-self-2 : goal.invariant_of-self-2
invariant_of-self-2 g c =
    let inside = c.self.inside in
    let found : lookup (is_at (identity_cmp c.args.meter.now)) inside.rows.entries ≡ Some c.in_ok-row.row = sym c.remove.ensures.value ∙ c.in_ok-row.was in
    indexed_less inside.orders.by_flat.keys c.unfile.new.self.by_flat.keys inside.orders.on_bus.keys c.unfile.new.self.on_bus.keys inside.rows.entries c.remove.new.self.entries c.args.meter.now c.self.invariant
    c.in_ok-row.row found c.unfile.ensures.flats c.unfile.ensures.bus c.remove.ensures.updates.0 c.remove.ensures.ordered

pub invariant_of-self : goal.invariant_of-self
invariant_of-self g c = grind (arith, common_steps)
