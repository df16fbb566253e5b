use Rattle.std.proofs.Common.{◌≡◌, ◌+◌, ◌-◌, ◌≤◌, Option, Some, true, ap, subst, sym, ◌∙◌, arith}
use Rattle.mbdc_change.specs.State.{State, Held, MeterRow, row_of}
use Rattle.mbdc_change.specs.Accepts.{continues}
use Rattle.mbdc_change.specs.Apply.{heard, joined}
use Rattle.mbdc_change.specs.Size.{size_of}
use Rattle.dc_meters.specs.Kept.{IsKept}
use Rattle.dc_meters.proofs.Fields.{state_in}
use Rattle.dc_meters.proofs.Sizes.{meter_size-le}
use Rattle.dc_meters.proofs.Keeps.{IsKept-other_row}
use Rattle.dc_meters.proofs.house.House.keep_open.Given.{Over}
use Rattle.dc_meters.proofs.house.House.keep_open.Goals.{In_ok-after}
use Rattle.dc_meters.proofs.house.House.keep_open.Goals as goal

pub join-requires-clause-continues : goal.join-requires-clause-continues
join-requires-clause-continues g c = ap (λ (x : Held). continues c.args.number (row_of c.args.meter x.state)) c.self.view_is ∙ c.requires.continues

-- THE PART IS KEPT: the bytes that the meter is counted as now, for those of before.
record IsKeptOpen (g : Over) (c : In_ok-after g) : Type 0 where
  before_fits : c.size-before.result ≤ c.self.inside.size
  fits : (c.self.inside.size - c.size-before.result) + c.in_ok-after.after ≤ c.self.inside.budget
  kept : IsKept ((c.self.inside.size - c.size-before.result) + c.in_ok-after.after) c.self.inside.budget (record (state_in c.self.inside) { meters = c.join.new.self.entries })

is_kept_open : (g : Over) (c : In_ok-after g) → IsKeptOpen g c
is_kept_open g c =
    let h = c.self.inside in
    let s : State = state_in h in
    let row : MeterRow = c.in-Some.row.now in
    let found : row_of c.args.meter s ≡ Some row = sym c.in-Some.ensures.value in
    let small = meter_size-le c.args.meter row s found in
    let room = subst (λ (x : Held). size_of (heard c.args.meter true c.args.number c.args.part (row_of c.args.meter x.state) x.state) ≤ x.budget) (sym c.self.view_is) c.requires.room in
    let after : MeterRow = record row { parts = joined c.args.number c.args.part row.parts } in
    let over = c.in_ok-after.ensures.joined row found in
    let after_fits = subst (λ (o : Option MeterRow). size_of (heard c.args.meter true c.args.number c.args.part o s) ≤ h.budget) found room in
    let both = IsKept-other_row c.args.meter row after h.size h.budget s c.self.invariant found over.is_meter after_fits in
    record {
      before_fits = omega (arith, small, c.size-before.ensures.size, c.self.invariant.size_is);
      fits = omega (arith, both.0, c.size-before.ensures.size, over.size_is);
      kept = rw (over.entries, c.size-before.ensures.size, over.size_is) both.1;
    }

pub overflow_sub-self : goal.overflow_sub-self
overflow_sub-self g c = (is_kept_open g c).before_fits

pub overflow_add-self : goal.overflow_add-self
overflow_add-self g c = record { fits = omega (arith, (is_kept_open g c).fits) }

pub invariant_of-self-2 : goal.invariant_of-self-2
invariant_of-self-2 g c = (is_kept_open g (goal.at.invariant_of-self-2 g c).In_ok-after).kept

pub returns-clause-ok : goal.returns-clause-ok
returns-clause-ok g c =
    let row : MeterRow = c.in-Some.row.now in
    let found = sym c.in-Some.ensures.value in
    let over = c.in_ok-after.ensures.joined row found in
    rw (← c.self.view_is, over.entries, found)
