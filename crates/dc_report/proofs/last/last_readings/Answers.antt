use Rattle.std.proofs.Common.{rules, ◌≡◌, ◌∷◌, ℕ, List, sym, ap, ◌∙◌}
use Rattle.std.specs.Option.{option_or}
use Rattle.std.specs.BTreeMap.{get}
use Rattle.dc_address.specs.Identity.{identity_cmp}
use Rattle.dc_report.proofs.LastReadings.{last_serial, last_run, serial_found, serial_missed, seen}
use Rattle.dc_report.proofs.last.last_readings.Goals as goal

pub loop-serial-preserved : goal.loop-serial-preserved
loop-serial-preserved g c =
    let readings = c.args.house.now.state.readings in
    let n : ℕ = c.in-Some.serial in
    let rest : List ℕ = c.next.new.self in
    let left : c.loop-serial.serial-iterator ≡ n ∷ rest = search rules in
    λ meter.
    let before = get identity_cmp c.loop-serial.last meter in
    serial_missed readings meter n rest before c.in_default.ensures
    ∙ ap (λ (ns : List ℕ). option_or (last_serial readings meter ns) (seen before)) (sym left) ∙ c.loop-serial.invariant meter

pub loop-serial-preserved-in-Ok : goal.loop-serial-preserved-in-Ok
loop-serial-preserved-in-Ok g c =
    let readings = c.args.house.now.state.readings in
    let n : ℕ = c.in-Some.serial in
    let rest : List ℕ = c.next.new.self in
    let left : c.loop-serial.serial-iterator ≡ n ∷ rest = search rules in
    λ meter.
    let before = get identity_cmp c.loop-serial.last meter in
    ap (λ o. option_or (last_serial readings meter rest) (seen o)) (rw c.meter.ensures at (c.in-Ok.ensures.updates.0 meter))
    ∙ serial_found readings meter n c.in-Some-reading.found rest before c.in-Some-reading.ensures
    ∙ ap (λ (ns : List ℕ). option_or (last_serial readings meter ns) (seen before)) (sym left) ∙ c.loop-serial.invariant meter

pub returns-clause-last : goal.returns-clause-last
returns-clause-last g c =
    let readings = c.args.house.now.state.readings in
    λ meter.
    let kept = seen (get identity_cmp c.loop-serial.last meter) in
    sym (ap (λ (ns : List ℕ). option_or (last_serial readings meter ns) kept) c.in-None.ensures.steps.0)
    ∙ c.loop-serial.invariant meter
    ∙ ap (last_serial readings meter) (c.into_iter-serial-iterator.ensures.into_iter_gives ∙ c.due-serial-items.ensures.serials)
    ∙ last_run c.args.date meter readings c.due-serial-items.ensures.is_state.readings_ascend
