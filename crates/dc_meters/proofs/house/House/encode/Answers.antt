use Rattle.std.proofs.Common.{◌≡◌, sym, ap, ◌∙◌, arith, length, List}
use Rattle.dc_address.specs.declared.identity.Identity.{Identity}
use Rattle.mbdc_change.specs.State.{State, Held, MeterRow, ReadingRow}
use Rattle.dc_meters.proofs.Fields.{state_in}
use Rattle.dc_meters.proofs.Sizes.{meters-le, readings-le}
use Rattle.mbdc_change.specs.Size.{size_of}
use Rattle.mbdc_io.proofs.Writes.{written_both, stopped_first, stopped_second}
use Rattle.mbdc_io.proofs.Writes.{on_any_err}
use Rattle.dc_meters.proofs.house.House.encode.Goals as goal

pub returns-in_err-put_head-clause-err : goal.returns-in_err-put_head-clause-err
returns-in_err-put_head-clause-err g c = on_any_err _ (stopped_first _ (stopped_first _ (c.in_err-put_head.ensures.err)))

pub returns-in_err-put_meters-clause-err : goal.returns-in_err-put_meters-clause-err
returns-in_err-put_meters-clause-err g c = rw (← c.rows.ensures ∙ ap (λ (x : Held). x.state.meters) c.self.view_is) (on_any_err _ (stopped_first _ (stopped_second c.in_ok-put_head.ensures.ok c.in_err-put_meters.ensures.err)))

pub returns-in_err-put_readings-clause-err : goal.returns-in_err-put_readings-clause-err
returns-in_err-put_readings-clause-err g c = rw (← c.rows.ensures ∙ ap (λ (x : Held). x.state.meters) c.self.view_is, ← c.all.ensures ∙ ap (λ (x : Held). x.state.readings) c.self.view_is) (on_any_err _ (stopped_second (written_both c.in_ok-put_head.ensures.ok c.in_ok-put_meters.ensures.ok) c.in_err-put_readings.ensures.err))

pub returns-clause-ok : goal.returns-clause-ok
returns-clause-ok g c = rw (← c.rows.ensures ∙ ap (λ (x : Held). x.state.meters) c.self.view_is, ← c.all.ensures ∙ ap (λ (x : Held). x.state.readings) c.self.view_is) (written_both (written_both c.in_ok-put_head.ensures.ok c.in_ok-put_meters.ensures.ok) c.in_ok-put_readings.ensures.ok)

pub put_meters-requires : goal.put_meters-requires
put_meters-requires g c =
    let h = c.self.inside in
    let s : State = state_in h in
    let whole : c.size.result ≡ size_of s = c.size.ensures.size ∙ ap (λ (x : Held). size_of x.state) (sym c.self.view_is) in
    omega (arith, meters-le s, whole, ap (λ (ms : List (Identity × MeterRow)). length ms) c.rows.ensures)

pub put_readings-requires : goal.put_readings-requires
put_readings-requires g c =
    let h = c.self.inside in
    let s : State = state_in h in
    let whole : c.size.result ≡ size_of s = c.size.ensures.size ∙ ap (λ (x : Held). size_of x.state) (sym c.self.view_is) in
    omega (arith, readings-le s, whole, ap (λ (rs : List ReadingRow). length rs) c.all.ensures)
