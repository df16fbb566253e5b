use Rattle.std.proofs.Common.{◌≡◌, ◌+◌, ◌≤◌, List, None, ap, subst, sym, ◌∙◌, arith}
use Rattle.std.specs.Map.{keys_of}
use Rattle.std.specs.List.Sorted.{IsStrictlySortedBy}
use Rattle.std.proofs.lemmas.Grind.{common_steps}
use Rattle.dc_address.specs.declared.identity.Identity.{Identity}
use Rattle.dc_address.specs.Identity.{identity_cmp}
use Rattle.mbdc_change.specs.State.{State, Held, MeterRow, row_of}
use Rattle.mbdc_change.specs.Size.{size_of}
use Rattle.mbdc_change.specs.Apply.{fitted}
use Rattle.dc_meters.specs.Kept.{IsKept}
use Rattle.dc_meters.proofs.Fields.{state_in}
use Rattle.dc_meters.proofs.Sizes.{size_of-fitted}
use Rattle.dc_meters.proofs.Keeps.{IsKept-fitted}
use Rattle.dc_meters.proofs.house.House.fit.Given.{Over}
use Rattle.dc_meters.proofs.house.House.fit.Goals.{In_ok-insert}
use Rattle.dc_meters.proofs.house.House.fit.Goals as goal

pub insert-requires : goal.insert-requires
insert-requires g c = record { absent = ap (λ (x : Held). row_of c.args.meter x.state) c.self.view_is ∙ c.requires.absent }

-- THE METER HANGS, and its bytes come on top.
record IsFitted (g : Over) (c : In_ok-insert g) : Type 0 where
  fits : c.self.inside.size + c.size-size.result ≤ c.self.inside.budget
  kept : IsKept (c.self.inside.size + c.size-size.result) c.self.inside.budget (record (state_in c.self.inside) { meters = c.insert.new.self.entries })

is_fitted : (g : Over) (c : In_ok-insert g) → IsFitted g c
is_fitted g c =
    let h = c.self.inside in
    let s : State = state_in h in
    let absent : row_of c.args.meter s ≡ None = ap (λ (x : Held). row_of c.args.meter x.state) c.self.view_is ∙ c.requires.absent in
    let room = subst (λ (x : Held). size_of (fitted c.args.meter c.args.row x.state) ≤ x.budget) (sym c.self.view_is) c.requires.room in
    let more = size_of-fitted c.args.meter c.args.row s c.self.invariant.state_is.meters_ascend absent in
    let fits : h.size + c.size-size.result ≤ h.budget = omega (arith, more, room, c.self.invariant.size_is, c.size-size.ensures.size) in
    let entries = c.in_ok-insert.ensures.entries in
    let sorted = subst (λ (es : List (Identity × MeterRow)). IsStrictlySortedBy identity_cmp (keys_of es)) entries c.insert.ensures.ordered in
    record {
      fits = fits;
      kept = rw entries (IsKept-fitted c.args.meter c.args.row h.size (h.size + c.size-size.result) h.budget s c.self.invariant absent c.requires.is_meter sorted (omega (arith, c.size-size.ensures.size)) fits);
    }

pub overflow_add-self : goal.overflow_add-self
overflow_add-self g c = record { fits = omega (arith, (is_fitted g c).fits) }

pub invariant_of-self-2 : goal.invariant_of-self-2
invariant_of-self-2 g c = (is_fitted g (goal.at.invariant_of-self-2 g c).In_ok-insert).kept

pub invariant_of-self : goal.invariant_of-self
invariant_of-self g c = grind (arith, common_steps)
