use Rattle.std.proofs.Common.{ℕ, List, length, Bool, ◌≡◌, ◌+◌, Some, ap, ◌∙◌, arith}
use Rattle.std.specs.Prelude.{if◌then◌else◌}
use Rattle.mbdc_change.specs.State.{State, Held, row_of}
use Rattle.mbdc_change.specs.Apply.{told}
use Rattle.mbdc_change.specs.Size.{size_of}
use Rattle.dc_meters.proofs.Fields.{state_in}
use Rattle.dc_meters.proofs.Sizes.{size_of-told, dropped-le}
use Rattle.dc_meters.proofs.house.House.size_with.Goals as goal

pub overflow_sub-self-inside : goal.overflow_sub-self-inside
overflow_sub-self-inside g c =
    let h = c.self.inside in
    let s : State = state_in h in
    let found : row_of c.args.body.now.meter s ≡ Some c.args.row.now = ap (λ (x : Held). row_of c.args.body.now.meter x.state) c.self.view_is ∙ c.requires in
    omega (arith, dropped-le c.args.part c.args.body.now.meter c.args.row.now s found, c.dropped_size-dropped.ensures.size, c.self.invariant.size_is)

pub returns : goal.returns
returns g c = λ moment.
    let h = c.self.inside in
    let s : State = state_in h in
    let found : row_of c.args.body.now.meter s ≡ Some c.args.row.now = ap (λ (x : Held). row_of c.args.body.now.meter x.state) c.self.view_is ∙ c.requires in
    let bytes = ap (λ (bs : List ℕ). 9 + length bs) c.as_slice.ensures.bytes in
    let more = c.read_size.ensures.size ∙ ap (λ (b : Bool). if b then 0 else 18 + length c.args.row.now.flat) c.more_follows.ensures in
    let told_is = size_of-told c.args.part moment c.args.body.now c.args.row.now s h.size c.dropped_size-dropped.result (9 + length c.as_slice.result.now) c.from-read.result found c.self.invariant.size_is c.dropped_size-dropped.ensures.size bytes (c.from-read.ensures ∙ more) in
    ap (λ (n : ℕ). n + (9 + length c.as_slice.result.now) + c.from-read.result) c.from.ensures ∙ told_is ∙ ap (λ (x : Held). size_of (told c.args.part moment c.args.body.now x.state)) c.self.view_is
