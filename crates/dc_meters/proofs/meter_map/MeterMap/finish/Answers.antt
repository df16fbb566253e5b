use Rattle.std.proofs.Common.{◌≡◌, Option, true, ap, subst, sym, ◌∙◌, arith}
use Rattle.std.specs.Map.{lookup}
use Rattle.std.specs.BTreeMap.{is_at}
use Rattle.std.proofs.lemmas.Map.Steps.{set_value_same}
use Rattle.dc_address.specs.Identity.{identity_cmp}
use Rattle.mbdc_change.specs.State.{MeterRow}
use Rattle.mbdc_change.specs.Accepts.{continues}
use Rattle.dc_meters.specs.Places.{MeterRows}
use Rattle.dc_meters.proofs.Identities.{one_row}
use Rattle.dc_meters.proofs.Indexed.{indexed_same}
use Rattle.dc_meters.proofs.meter_map.MeterMap.finish.Goals as goal

pub finish-requires-clause-continues : goal.finish-requires-clause-continues
finish-requires-clause-continues g c =
    subst (λ (o : Option MeterRow). continues c.args.number o ≡ true) (ap (λ (m : MeterRows). lookup (is_at (identity_cmp c.args.ended.meter)) m.entries) (sym c.self.view_is) ∙ sym c.in-Some.ensures.value) c.requires.continues

pub invariant_of-self-2 : goal.invariant_of-self-2
invariant_of-self-2 g c =
    let inside = c.self.inside in
    let after : MeterRow = c.finish.new.self in
    indexed_same inside.orders.by_flat.keys inside.orders.on_bus.keys inside.rows (c.get_mut.follows.lender after) c.args.ended.meter c.in-Some.row.now after c.self.invariant (sym c.in-Some.ensures.value) c.in_ok-size.ensures.closed
    (c.get_mut.follows.holds after)

pub returns-clause-closed : goal.returns-clause-closed
returns-clause-closed g c = λ row found_row.
    let same = one_row c.args.ended.meter c.self.view_is c.in-Some.ensures.value found_row in
    rw (← c.self.view_is, (c.get_mut.follows.holds c.finish.new.self).0, c.in_ok-size.ensures.closed, same)

pub returns-clause-read : goal.returns-clause-read
returns-clause-read g c = λ row found_row.
    let same = one_row c.args.ended.meter c.self.view_is c.in-Some.ensures.value found_row in
    record {
      readings = rw same at c.in_ok-size.ensures.ok;
      size_is = rw same at c.in_ok-size.ensures.size;
      is_reading = rw same at c.in_ok-size.ensures.is_reading;
    }

pub unreachable-requires : goal.unreachable-requires
unreachable-requires g c = grind (arith, set_value_same)

pub finish-requires-clause-later : goal.finish-requires-clause-later
finish-requires-clause-later g c = grind (arith, set_value_same)

pub invariant_of-self : goal.invariant_of-self
invariant_of-self g c = grind (arith, set_value_same)

pub returns-in_err-size-clause-closed : goal.returns-in_err-size-clause-closed
returns-in_err-size-clause-closed g c = grind (arith, set_value_same)

pub returns-in_err-size-clause-read : goal.returns-in_err-size-clause-read
returns-in_err-size-clause-read g c = grind (arith, set_value_same)

pub returns-in_err-size-clause-err : goal.returns-in_err-size-clause-err
returns-in_err-size-clause-err g c = grind (arith, set_value_same)
