use Rattle.std.proofs.Common.{◌-◌, List, subst, sym, arith}
use Rattle.std.specs.Map.{keys_of}
use Rattle.std.specs.List.Sorted.{IsStrictlySortedBy}
use Rattle.dc_address.specs.declared.identity.Identity.{Identity}
use Rattle.dc_address.specs.Identity.{identity_cmp}
use Rattle.mbdc_change.specs.State.{State, MeterRow}
use Rattle.dc_meters.proofs.Fields.{state_in}
use Rattle.dc_meters.proofs.Sizes.{meter_size-le}
use Rattle.dc_meters.proofs.Keeps.{IsKept-taken_out}
use Rattle.dc_meters.proofs.house.House.take_out.Goals as goal

pub overflow_sub-self : goal.overflow_sub-self
overflow_sub-self g c =
    let h = c.self.inside in
    let s : State = state_in h in
    omega (arith, meter_size-le c.args.meter c.in-Some.row s (sym c.in-Some.ensures.value), c.size.ensures.size, c.self.invariant.size_is)

pub invariant_of-self : goal.invariant_of-self
invariant_of-self g c =
    let h = c.self.inside in
    let s : State = state_in h in
    let entries = c.remove.ensures.entries in
    let sorted = subst (λ (es : List (Identity × MeterRow)). IsStrictlySortedBy identity_cmp (keys_of es)) entries c.remove.ensures.ordered in
    let found = sym c.in-Some.ensures.value in
    let small = meter_size-le c.args.meter c.in-Some.row s found in
    rw entries (IsKept-taken_out c.args.meter c.in-Some.row h.size (h.size - c.size.result) h.budget s c.self.invariant found sorted (omega (arith, small, c.size.ensures.size, c.self.invariant.size_is)))
