use Rattle.std.proofs.Common.{◌≡◌, Option, true, ap, subst, sym, ◌∙◌, arith}
use Rattle.std.specs.Map.{lookup}
use Rattle.std.specs.BTreeMap.{is_at}
use Rattle.std.proofs.lemmas.Map.Steps.{set_value_same}
use Rattle.dc_address.specs.Identity.{identity_cmp}
use Rattle.mbdc_change.specs.State.{MeterRow}
use Rattle.mbdc_change.specs.Accepts.{continues}
use Rattle.mbdc_change.specs.Apply.{joined}
use Rattle.mbdc_change.specs.Size.{meter_size}
use Rattle.mbdc_change.specs.Valid.{IsMeter}
use Rattle.dc_meters.specs.Places.{MeterRows}
use Rattle.dc_meters.proofs.Identities.{one_row}
use Rattle.dc_meters.proofs.Indexed.{indexed_same}
use Rattle.dc_meters.proofs.meter_map.MeterMap.join.Goals as goal

pub join-requires-clause-continues : goal.join-requires-clause-continues
join-requires-clause-continues g c =
    subst (λ (o : Option MeterRow). continues c.args.number o ≡ true) (ap (λ (m : MeterRows). lookup (is_at (identity_cmp c.args.meter.now)) m.entries) (sym c.self.view_is) ∙ sym c.in-Some.ensures.value) c.requires.continues

pub invariant_of-self-2 : goal.invariant_of-self-2
invariant_of-self-2 g c =
    let inside = c.self.inside in
    let after : MeterRow = c.join.new.self in
    indexed_same inside.orders.by_flat.keys inside.orders.on_bus.keys inside.rows (c.get_mut.follows.lender after) c.args.meter.now c.in-Some.row.now after c.self.invariant (sym c.in-Some.ensures.value) c.in_ok-join.ensures.ok
    (c.get_mut.follows.holds after)

pub returns-clause-joined : goal.returns-clause-joined
returns-clause-joined g c = λ row found_row.
    let same = one_row c.args.meter.now c.self.view_is c.in-Some.ensures.value found_row in
    let after : c.join.new.self ≡ record row { parts = joined c.args.number c.args.part row.parts } = c.in_ok-join.ensures.ok ∙ ap (λ (m : MeterRow). record m { parts = joined c.args.number c.args.part m.parts }) same in
    record {
      entries = rw (← c.self.view_is, (c.get_mut.follows.holds c.join.new.self).0, after);
      size_is = c.size.ensures.size ∙ ap (λ (m : MeterRow). meter_size m) after;
      is_meter = subst IsMeter after c.size.ensures.is_meter;
    }

pub unreachable-requires : goal.unreachable-requires
unreachable-requires g c = grind (arith, set_value_same)

pub invariant_of-self : goal.invariant_of-self
invariant_of-self g c = grind (arith, set_value_same)

pub returns-in_err-join-clause-joined : goal.returns-in_err-join-clause-joined
returns-in_err-join-clause-joined g c = grind (arith, set_value_same)

pub returns-in_err-join-clause-err : goal.returns-in_err-join-clause-err
returns-in_err-join-clause-err g c = grind (arith, set_value_same)
