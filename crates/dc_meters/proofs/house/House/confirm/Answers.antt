use Rattle.std.proofs.Common.{◌≡◌, ◌+◌, ◌-◌, ◌<◌, List, ap, subst, sym, arith, sum_by, filter, nat_lt}
use Rattle.mbdc_change.specs.State.{State, Held, ReadingRow}
use Rattle.mbdc_change.specs.Size.{reading_size}
use Rattle.mbdc_change.specs.Apply.{confirmed_up_to}
use Rattle.dc_meters.proofs.Fields.{state_in}
use Rattle.dc_meters.proofs.Keeps.{IsKept-confirmed}
use Rattle.dc_meters.proofs.Readings.{confirmed_before}
use Rattle.dc_meters.proofs.house.House.confirm.Goals as goal

pub invariant_of-self : goal.invariant_of-self
invariant_of-self g c =
    let h = c.self.inside in
    let s : State = state_in h in
    let given = subst (λ (x : Held). c.args.serial < x.state.next_serial) (sym c.self.view_is) c.requires in
    let kept = c.forget.ensures.kept in
    let less : c.forget.result + sum_by reading_size (filter (λ (r : ReadingRow). nat_lt c.args.serial r.serial) s.readings) ≡ sum_by reading_size s.readings =
    omega (arith, c.forget.ensures.size, ap (λ (rs : List ReadingRow). sum_by reading_size rs) kept) in
    rw (c.max-self-inside.ensures, kept) (IsKept-confirmed c.args.serial c.forget.result h.size (h.size - c.forget.result) h.budget s c.self.invariant given less (omega (arith, less, c.self.invariant.size_is)))

pub returns-then-serial-self : goal.returns-then-serial-self
returns-then-serial-self g c =
    let h = c.self.inside in
    let s : State = state_in h in
    let same = confirmed_before c.args.serial h.budget s c.self.invariant.state_is c.if-serial-self.true in
    subst (λ (x : Held). x ≡ record { state = confirmed_up_to c.args.serial x.state; budget = x.budget }) c.self.view_is
    (ap (λ (x : State). record { state = x; budget = h.budget }) (sym same))
