use Rattle.std.proofs.Common.{◌≡◌, ℕ, ◌+◌, ◌-◌, ◌≤◌, List, length, Option, Some, ap, subst, sym, ◌∙◌, arith}
use Rattle.std.proofs.lemmas.Grind.{common_steps}
use Rattle.mbdc_change.specs.State.{State, Held, MeterRow, row_of}
use Rattle.mbdc_change.specs.Apply.{moved}
use Rattle.mbdc_change.specs.Flat.{IsFlat}
use Rattle.mbdc_change.specs.Size.{size_of, meter_size}
use Rattle.mbdc_change.specs.Valid.{IsMeter}
use Rattle.dc_meters.specs.Places.{moved_in}
use Rattle.dc_meters.specs.Kept.{IsKept}
use Rattle.dc_meters.proofs.Fields.{state_in}
use Rattle.dc_meters.proofs.Sizes.{meter_size-le}
use Rattle.dc_meters.proofs.Keeps.{IsKept-other_row}
use Rattle.dc_meters.proofs.house.House.move_to.Given.{Over}
use Rattle.dc_meters.proofs.house.House.move_to.Goals.{In_ok-move_to, After-from}
use Rattle.dc_meters.proofs.house.House.move_to.Goals as goal

in_flat : (row : MeterRow) (flat : List ℕ) → IsMeter row → IsFlat flat → IsMeter (record row { flat = flat })
in_flat row flat is is_flat = record { line_is = is.line_is; address_is = is.address_is; flat_is = is_flat; parts_are = is.parts_are }

-- of the meter's bytes, those of the flat of before
flat_before : (g : Over) (c : In_ok-move_to g) → c.from-before.result ≡ length c.in-Some.row.now.flat
flat_before g c = c.from-before.ensures ∙ c.len.ensures.exact ∙ ap (λ (f : List ℕ). length f) c.flat.ensures.flat

-- THE METER IS MOVED: the bytes of its flat, for those of the flat of before.
record IsMoved (g : Over) (c : After-from g) : Type 0 where
  fits : (c.self.inside.size - c.from-before.result) + c.from.result ≤ c.self.inside.budget
  kept : IsKept ((c.self.inside.size - c.from-before.result) + c.from.result) c.self.inside.budget (record (state_in c.self.inside) { meters = c.move_to.new.self.entries })

is_moved : (g : Over) (c : After-from g) → IsMoved g c
is_moved g c =
    let h = c.self.inside in
    let s : State = state_in h in
    let row : MeterRow = c.in-Some.row.now in
    let found : row_of c.args.meter s ≡ Some row = sym c.in-Some.ensures.value in
    let after : MeterRow = record row { flat = c.args.flat } in
    let before_is = flat_before g (goal.at.overflow_add-self g c).In_ok-move_to in
    let after_is : c.from.result ≡ length c.args.flat = c.from.ensures ∙ c.len-2.ensures.exact in
    let room = subst (λ (x : Held). size_of (moved c.args.meter c.args.flat (row_of c.args.meter x.state) x.state) ≤ x.budget) (sym c.self.view_is) c.requires.room in
    let is : IsMeter after = in_flat row c.args.flat c.flat.ensures.is_meter c.requires.is_flat in
    let after_fits = subst (λ (o : Option MeterRow). size_of (moved c.args.meter c.args.flat o s) ≤ h.budget) found room in
    let both = IsKept-other_row c.args.meter row after h.size h.budget s c.self.invariant found is after_fits in
    let small = meter_size-le c.args.meter row s found in
    let size_is : (h.size - c.from-before.result) + c.from.result ≡ (h.size - meter_size row) + meter_size after = omega (arith, small, before_is, after_is, c.self.invariant.size_is) in
    let entries = c.in_ok-move_to.ensures.entries ∙ ap (λ (o : Option MeterRow). moved_in c.args.meter c.args.flat o h.meters.entries) found in
    record { fits = omega (arith, both.0, size_is); kept = rw (entries, size_is) both.1 }

pub overflow_sub-self : goal.overflow_sub-self
overflow_sub-self g c =
    let h = c.self.inside in
    let row : MeterRow = c.in-Some.row.now in
    omega (arith, meter_size-le c.args.meter row (state_in h) (sym c.in-Some.ensures.value), flat_before g c, c.self.invariant.size_is)

pub overflow_add-self : goal.overflow_add-self
overflow_add-self g c = record { fits = omega (arith, (is_moved g c).fits) }

pub invariant_of-self-2 : goal.invariant_of-self-2
invariant_of-self-2 g c = (is_moved g (goal.at.invariant_of-self-2 g c).After-from).kept

pub returns-clause-ok : goal.returns-clause-ok
returns-clause-ok g c =
    let found = sym c.in-Some.ensures.value in
    rw (← c.self.view_is, c.in_ok-move_to.ensures.entries, found)

pub invariant_of-self : goal.invariant_of-self
invariant_of-self g c = grind (arith, common_steps)

pub returns-in_err-move_to-clause-ok : goal.returns-in_err-move_to-clause-ok
returns-in_err-move_to-clause-ok g c = grind (arith, common_steps)
