use Rattle.std.proofs.Common.{◌≡◌, ◌+◌, ◌-◌, Some, ap, sym, ◌∙◌, arith, length}
use Rattle.mbdc_change.specs.State.{State, Held, MeterRow, row_of}
use Rattle.mbdc_change.specs.Apply.{moved}
use Rattle.mbdc_change.specs.Size.{size_of}
use Rattle.dc_meters.proofs.Fields.{state_in}
use Rattle.dc_meters.proofs.Sizes.{size_of-moved, meter_size-le}
use Rattle.dc_meters.proofs.house.House.check_move.Given.{Over}
use Rattle.dc_meters.proofs.house.House.check_move.Goals.{After-from-3}
use Rattle.dc_meters.proofs.house.House.check_move.Goals as goal

before : (g : Over) (c : After-from-3 g) → c.from-3.result ≡ length c.in-Some.row.now.flat
before g c = c.from-3.ensures ∙ c.len-2.ensures.exact ∙ ap length c.flat.ensures.flat

whole : (g : Over) (c : After-from-3 g) → c.from.result ≡ size_of (state_in c.self.inside)
whole g c = c.from.ensures ∙ c.size.ensures.size ∙ ap (λ (x : Held). size_of x.state) (sym c.self.view_is)

pub overflow_sub-both : goal.overflow_sub-both
overflow_sub-both g c =
    let h = c.self.inside in
    let s : State = state_in h in
    let row : MeterRow = c.in-Some.row.now in
    let found : row_of c.args.meter.now s ≡ Some row = sym c.in-Some.ensures.value in
    omega (arith, meter_size-le c.args.meter.now row s found, before g c, whole g c)

pub returns : goal.returns
returns g c =
    let h = c.self.inside in
    let s : State = state_in h in
    let row : MeterRow = c.in-Some.row.now in
    let found : row_of c.args.meter.now s ≡ Some row = sym c.in-Some.ensures.value in
    let at = (goal.at.returns g c).After-from-3 in
    let there : row_of c.args.meter.now c.args.self.now.state ≡ Some row = ap (λ (x : Held). row_of c.args.meter.now x.state) (sym c.self.view_is) ∙ found in
    let sum : size_of (moved c.args.meter.now c.args.flat (Some row) s) ≡ (c.from.result + c.from-2.result) - c.from-3.result =
    omega (arith, size_of-moved c.args.meter.now c.args.flat row s found, meter_size-le c.args.meter.now row s found, before g at, whole g at, c.from-2.ensures, c.len.ensures.exact) in
    let size : size_of (moved c.args.meter.now c.args.flat (Some row) c.args.self.now.state) ≡ (c.from.result + c.from-2.result) - c.from-3.result =
    ap (λ (x : Held). size_of (moved c.args.meter.now c.args.flat (Some row) x.state)) (sym c.self.view_is) ∙ sum in
    rw (there, size) c.check_size.ensures
