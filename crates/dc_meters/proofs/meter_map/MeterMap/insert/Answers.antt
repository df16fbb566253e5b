use Rattle.std.proofs.Common.{◌≡◌, None, ap, ◌∙◌, arith}
use Rattle.std.specs.Map.{lookup}
use Rattle.std.specs.BTreeMap.{is_at}
use Rattle.std.proofs.lemmas.Grind.{common_steps}
use Rattle.dc_address.specs.Identity.{identity_cmp}
use Rattle.dc_meters.specs.Places.{MeterRows, place_cmp, bus_cmp, is_in_flat, hangs_at, meter_by_flat, meter_on_bus}
use Rattle.dc_meters.proofs.Placed.{nowhere, placed_back}
use Rattle.dc_meters.proofs.Indexed.{indexed_more, indexed_back}
use Rattle.dc_meters.proofs.meter_map.MeterMap.insert.Goals as goal

pub file-requires : goal.file-requires
file-requires g c =
    let inside = c.self.inside in
    let absent : lookup (is_at (identity_cmp c.args.meter)) inside.rows.entries ≡ None = ap (λ (m : MeterRows). lookup (is_at (identity_cmp c.args.meter)) m.entries) c.self.view_is ∙ c.requires.absent in
    record { no_flat = nowhere place_cmp meter_by_flat is_in_flat inside.orders.by_flat.keys inside.rows.entries c.args.meter c.self.invariant.by_flat absent }

pub invariant_of-self : goal.invariant_of-self
invariant_of-self g c =
    let inside = c.self.inside in
    indexed_back inside.orders.by_flat.keys c.file.new.self.by_flat.keys inside.orders.on_bus.keys c.file.new.self.on_bus.keys inside.rows.entries inside.rows.entries c.args.meter c.self.invariant
    c.in_err-file.ensures.same_flats c.in_err-file.ensures.same_bus

pub invariant_of-self-in-Err : goal.invariant_of-self-in-Err
invariant_of-self-in-Err g c =
    let inside = c.self.inside in
    let absent : lookup (is_at (identity_cmp c.args.meter)) inside.rows.entries ≡ None = ap (λ (m : MeterRows). lookup (is_at (identity_cmp c.args.meter)) m.entries) c.self.view_is ∙ c.requires.absent in
    let flats_out = rw c.in-Err.ensures.value_returned at c.unfile.ensures.flats in
    let bus_out = rw c.in-Err.ensures.value_returned at c.unfile.ensures.bus in
    rw c.in-Err.ensures.err
    (indexed_back inside.orders.by_flat.keys c.unfile.new.self.by_flat.keys inside.orders.on_bus.keys c.unfile.new.self.on_bus.keys inside.rows.entries inside.rows.entries c.args.meter c.self.invariant
    (placed_back place_cmp meter_by_flat is_in_flat inside.orders.by_flat.keys c.file.new.self.by_flat.keys c.unfile.new.self.by_flat.keys c.args.meter c.args.row
    (nowhere place_cmp meter_by_flat is_in_flat inside.orders.by_flat.keys inside.rows.entries c.args.meter c.self.invariant.by_flat absent) c.in_ok-file.ensures.flats flats_out)
    (placed_back bus_cmp meter_on_bus hangs_at inside.orders.on_bus.keys c.file.new.self.on_bus.keys c.unfile.new.self.on_bus.keys c.args.meter c.args.row
    (nowhere bus_cmp meter_on_bus hangs_at inside.orders.on_bus.keys inside.rows.entries c.args.meter c.self.invariant.on_bus absent) c.in_ok-file.ensures.bus bus_out))

pub invariant_of-self-in-Ok : goal.invariant_of-self-in-Ok
invariant_of-self-in-Ok g c =
    let inside = c.self.inside in
    let absent : lookup (is_at (identity_cmp c.args.meter)) inside.rows.entries ≡ None = ap (λ (m : MeterRows). lookup (is_at (identity_cmp c.args.meter)) m.entries) c.self.view_is ∙ c.requires.absent in
    indexed_more inside.orders.by_flat.keys c.file.new.self.by_flat.keys inside.orders.on_bus.keys c.file.new.self.on_bus.keys inside.rows.entries c.insert.new.self.entries c.args.meter c.self.invariant c.args.row absent
    c.in_ok-file.ensures.flats c.in_ok-file.ensures.bus c.in-Ok.ensures.updates.0 c.insert.ensures.ordered

pub returns-in-Ok-clause-others : goal.returns-in-Ok-clause-others
returns-in-Ok-clause-others g c = λ k other. c.in-Ok.ensures.updates.2 k other ∙ ap (λ (m : MeterRows). lookup (is_at (identity_cmp k)) m.entries) c.self.view_is

pub returns-in_err-file-clause-entries : goal.returns-in_err-file-clause-entries
returns-in_err-file-clause-entries g c = grind (arith, common_steps)

pub returns-in_err-file-clause-others : goal.returns-in_err-file-clause-others
returns-in_err-file-clause-others g c = grind (arith, common_steps)

pub returns-in_err-file-clause-err : goal.returns-in_err-file-clause-err
returns-in_err-file-clause-err g c = grind (arith, common_steps)
