use Rattle.std.proofs.Common.{◌≡◌, ◌+◌, ◌-◌, ◌<◌, ◌≤◌, [], Some, false, refl, ap, subst, sym, ◌∙◌, arith}
use Rattle.mbdc_change.specs.State.{State, Held, MeterRow, ReadingRow, row_of}
use Rattle.mbdc_change.specs.Accepts.{continues}
use Rattle.mbdc_change.specs.Apply.{heard, joined}
use Rattle.mbdc_change.specs.Fields.{end_of_numbers}
use Rattle.mbdc_change.specs.Size.{size_of}
use Rattle.dc_meters.specs.Kept.{IsKept}
use Rattle.dc_meters.proofs.Fields.{state_in}
use Rattle.dc_meters.proofs.Sizes.{meter_size-le}
use Rattle.dc_meters.proofs.Keeps.{IsKept-heard_last}
use Rattle.dc_meters.proofs.house.House.finish.Given.{Over}
use Rattle.dc_meters.proofs.house.House.finish.Goals.{In_ok-read}
use Rattle.dc_meters.proofs.house.House.finish.Goals as goal

pub finish-requires-clause-continues : goal.finish-requires-clause-continues
finish-requires-clause-continues g c = ap (λ (x : Held). continues c.args.number (row_of c.args.meter x.state)) c.self.view_is ∙ c.requires.continues

pub finish-requires-clause-later : goal.finish-requires-clause-later
finish-requires-clause-later g c = λ k d at. (c.self.invariant.state_is.serials_are k d at).high

-- THE READOUT IS ENDED: the bytes of the closed meter and of the reading, for those that the meter was counted as before.
record IsEnded (g : Over) (c : In_ok-read g) : Type 0 where
  before_fits : c.size-before.result ≤ c.self.inside.size
  fits : (c.self.inside.size - c.size-before.result) + c.closed_size-after.result + c.in_ok-read.read ≤ c.self.inside.budget
  kept : IsKept ((c.self.inside.size - c.size-before.result) + c.closed_size-after.result + c.in_ok-read.read) c.self.inside.budget
      (record (state_in c.self.inside) { meters = c.finish.new.self.entries; readings = c.finish.new.readings.items; next_serial = c.self.inside.next_serial + 1 })

is_ended : (g : Over) (c : In_ok-read g) → IsEnded g c
is_ended g c =
    let h = c.self.inside in
    let s : State = state_in h in
    let row : MeterRow = c.in-Some.row.now in
    let found : row_of c.args.meter s ≡ Some row = sym c.in-Some.ensures.value in
    let small = meter_size-le c.args.meter row s found in
    let room = subst (λ (x : Held). size_of (heard c.args.meter false c.args.number c.args.part (row_of c.args.meter x.state) x.state) ≤ x.budget) (sym c.self.view_is) c.requires.room in
    let serial = subst (λ (x : Held). x.state.next_serial < end_of_numbers) (sym c.self.view_is) c.requires.serial in
    let closed : MeterRow = record row { parts = [] } in
    let reading : ReadingRow = record { serial = s.next_serial; meter = c.args.meter; flat = row.flat; parts = joined c.args.number c.args.part row.parts } in
    let read = c.in_ok-read.ensures.read row found in
    let both = IsKept-heard_last c.args.meter c.args.number c.args.part row closed reading h.size h.budget s c.self.invariant found refl c.closed_size-after.ensures.is_meter refl read.is_reading serial room in
    record {
      before_fits = omega (arith, small, c.size-before.ensures.size, c.self.invariant.size_is);
      fits = omega (arith, both.0, c.size-before.ensures.size, c.closed_size-after.ensures.size, read.size_is);
      kept = rw (c.in_ok-read.ensures.closed row found, read.readings, c.size-before.ensures.size, c.closed_size-after.ensures.size, read.size_is) both.1;
    }

pub overflow_sub-self : goal.overflow_sub-self
overflow_sub-self g c = (is_ended g c).before_fits

pub overflow_add-self-2 : goal.overflow_add-self-2
overflow_add-self-2 g c = record { fits = omega (arith, (is_ended g c).fits) }

pub invariant_of-self-2 : goal.invariant_of-self-2
invariant_of-self-2 g c = (is_ended g (goal.at.invariant_of-self-2 g c).In_ok-read).kept

pub returns-clause-ok : goal.returns-clause-ok
returns-clause-ok g c =
    let row : MeterRow = c.in-Some.row.now in
    let found = sym c.in-Some.ensures.value in
    let read = c.in_ok-read.ensures.read row found in
    rw (← c.self.view_is, c.in_ok-read.ensures.closed row found, read.readings, found)
