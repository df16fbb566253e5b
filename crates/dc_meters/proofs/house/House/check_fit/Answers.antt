use Rattle.std.proofs.Common.{◌≡◌, ◌+◌, [], false, ap, sym, ◌∙◌, arith}
use Rattle.std.specs.Prelude.{is_some}
use Rattle.mbdc_change.specs.State.{State, Held, MeterRow, row_of}
use Rattle.mbdc_change.specs.Apply.{fitted}
use Rattle.mbdc_change.specs.Accepts.{is_taken}
use Rattle.mbdc_change.specs.Size.{size_of}
use Rattle.dc_meters.proofs.Fields.{state_in}
use Rattle.dc_meters.proofs.Sizes.{size_of-fitted}
use Rattle.dc_meters.proofs.Acceptance.{none_of}
use Rattle.dc_meters.proofs.house.House.check_fit.Goals as goal

pub returns : goal.returns
returns g c =
    let h = c.self.inside in
    let s : State = state_in h in
    let row : MeterRow = record { line = c.args.line; address = c.args.address; flat = c.args.flat; parts = [] } in
    let unknown : is_some (row_of c.args.meter.now s) ≡ false = sym c.contains_key.ensures ∙ c.if-contains_key.false in
    let known : is_some (row_of c.args.meter.now c.args.self.now.state) ≡ false = ap (λ (x : Held). is_some (row_of c.args.meter.now x.state)) (sym c.self.view_is) ∙ unknown in
    let free : is_taken c.args.line c.args.address c.args.self.now.state ≡ false = sym c.is_taken.ensures ∙ c.if-is_taken.false in
    let more = size_of-fitted c.args.meter.now row s c.self.invariant.state_is.meters_ascend (none_of (row_of c.args.meter.now s) unknown) in
    let size : size_of (fitted c.args.meter.now row c.args.self.now.state) ≡ c.from.result + 12 + c.from-2.result =
    ap (λ (x : Held). size_of (fitted c.args.meter.now row x.state)) (sym c.self.view_is) ∙ omega (arith, more, c.from.ensures, c.from-2.ensures, c.len.ensures.exact, c.self.invariant.size_is) in
    rw (known, free, size) c.check_size.ensures
