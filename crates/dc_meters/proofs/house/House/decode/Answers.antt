use Rattle.std.proofs.Common.{◌≡◌, length, List, ℕ, [], Err, Some, refl, ap, ◌∙◌, arith}
use Rattle.std.proofs.lemmas.Bool.Decides.{nat_tests}
use Rattle.std.proofs.lemmas.List.{nil_from_length}
use Rattle.std.proofs.lemmas.Result.{err_from_is_err_and}
use Rattle.std.proofs.lemmas.Grind.{common_steps}
use Rattle.mbdc_change.specs.declared.decode_fault.DecodeFault.{DecodeFault}
use Rattle.mbdc_change.specs.Reading.{Head}
use Rattle.mbdc_change.proofs.Runs.{is_bad}
use Rattle.dc_meters.proofs.Decoded.{behind_head, no_head, too_large, behind_meters, ascend_of, behind_readings, line_within, IsDecoded, state_with, decoded}
use Rattle.dc_meters.proofs.house.House.decode.Given.{Over}
use Rattle.dc_meters.proofs.house.House.decode.Goals.{Else-not-is_empty}
use Rattle.dc_meters.specs.declared.house.decode.Head as declared
use Rattle.dc_meters.proofs.house.House.decode.Goals as goal

abbrev head_in : declared.Head → Head
head_in h = record { next_serial = h.next_serial; confirmed = h.confirmed; last_number = h.last_number; last_line = h.last_line.now }

pub returns-in_err-head-clause-bad : goal.returns-in_err-head-clause-bad
returns-in_err-head-clause-bad g c = λ bad s spells.
    no_head c.args.budget c.args.bytes.now s c.ranges.budget.fits spells c.in_err-head.ensures.1

pub spelled_size-requires : goal.spelled_size-requires
spelled_size-requires g c =
    let head : Head = head_in c.in_ok-head.head in
    (line_within c.args.bytes.now head c.in_ok-head.rest.now (λ i. omega (arith, c.type_inv.bytes i)) c.in_ok-head.ensures).within

pub returns-in_default-clause-bad : goal.returns-in_default-clause-bad
returns-in_default-clause-bad g c = λ bad s spells.
    let head : Head = head_in c.in_ok-head.head in
    let left = behind_head c.args.budget c.args.bytes.now s head c.in_ok-head.rest.now c.ranges.budget.fits spells c.in_ok-head.ensures in
    c.in_default.ensures.none (too_large c.args.budget c.args.bytes.now s head c.in_ok-head.rest.now spells left)

pub returns-in_default-new-clause-bad : goal.returns-in_default-new-clause-bad
returns-in_default-new-clause-bad g c = λ bad s spells.
    let head : Head = head_in c.in_ok-head.head in
    let line = line_within c.args.bytes.now head c.in_ok-head.rest.now (λ i. omega (arith, c.type_inv.bytes i)) c.in_ok-head.ensures in
    c.in_default-new.ensures line.short

pub returns-in_err-meters-clause-bad : goal.returns-in_err-meters-clause-bad
returns-in_err-meters-clause-bad g c = λ bad s spells.
    let p = err_from_is_err_and c.from_residual-in_err-meters.result c.from_residual-in_err-meters.ensures.1 in
    let fault = is_bad c.from_residual-in_err-meters.result p.0 c.in_err-meters.field-0.0 p.1 p.2 bad in
    let head : Head = head_in c.in_ok-head.head in
    let left = behind_head c.args.budget c.args.bytes.now s head c.in_ok-head.rest.now c.ranges.budget.fits spells c.in_ok-head.ensures in
    c.in_err-meters.ensures.bad (ap (λ (e : DecodeFault). Err e) fault) s.meters left.after_meters left.meters spells.is_state.meters_ascend

pub returns-in_err-readings-clause-bad : goal.returns-in_err-readings-clause-bad
returns-in_err-readings-clause-bad g c = λ bad s spells.
    let p = err_from_is_err_and c.from_residual-in_err-readings.result c.from_residual-in_err-readings.ensures.1 in
    let fault = is_bad c.from_residual-in_err-readings.result p.0 c.in_err-readings.field-0.0 p.1 p.2 bad in
    let head : Head = head_in c.in_ok-head.head in
    let left = behind_head c.args.budget c.args.bytes.now s head c.in_ok-head.rest.now c.ranges.budget.fits spells c.in_ok-head.ensures in
    let readings = behind_meters s head c.in_ok-head.rest.now c.in_ok-meters.meters.entries c.in_ok-meters.rest.now left c.in_ok-meters.ensures.found in
    c.in_err-readings.ensures.bad (ap (λ (e : DecodeFault). Err e) fault) s.readings [] readings (ascend_of c.args.budget s head spells.is_state left.head_is)

pub returns-then-not-is_empty-clause-bad : goal.returns-then-not-is_empty-clause-bad
returns-then-not-is_empty-clause-bad g c = λ bad s spells.
    let head : Head = head_in c.in_ok-head.head in
    let left = behind_head c.args.budget c.args.bytes.now s head c.in_ok-head.rest.now c.ranges.budget.fits spells c.in_ok-head.ensures in
    let readings = behind_meters s head c.in_ok-head.rest.now c.in_ok-meters.meters.entries c.in_ok-meters.rest.now left c.in_ok-meters.ensures.found in
    let nothing = ap length (behind_readings s.readings c.in_ok-readings.readings.items c.in_ok-meters.rest.now c.in_ok-readings.rest.now readings c.in_ok-readings.ensures.found) in
    let empty : length c.in_ok-readings.rest.now ≡ 0 = nothing in
    grind (arith, nat_tests)

is_decoded : (g : Over) (c : Else-not-is_empty g)
    → IsDecoded c.args.budget c.in-Some.size c.args.bytes.now (state_with (head_in c.in_ok-head.head) c.in_ok-meters.meters.entries c.in_ok-readings.readings.items)
is_decoded g c =
    let head : Head = head_in c.in_ok-head.head in
    let end : c.in_ok-readings.rest.now ≡ [] = nil_from_length c.in_ok-readings.rest.now (grind (arith, nat_tests)) in
    decoded c.args.budget c.in-Some.size c.args.bytes.now head c.in_ok-meters.meters.entries c.in_ok-readings.readings.items (λ i. omega (arith, c.type_inv.bytes i))
    (record {
      after_head = c.in_ok-head.rest.now;
      after_meters = c.in_ok-meters.rest.now;
      head_read = c.in_ok-head.ensures;
      meters_read = c.in_ok-meters.ensures.found;
      readings_read = c.in_ok-readings.ensures.found ∙ ap (λ (rest : List ℕ). Some (c.in_ok-readings.readings.items, rest)) end;
      meters_ascend = c.in_ok-meters.ensures.ascend;
      readings_ascend = c.in_ok-readings.ensures.ascend;
    })
    c.in-Some.ensures.found.0 c.in-Some.ensures.found.1

pub invariant_of-result : goal.invariant_of-result
invariant_of-result g c = rw c.in-Some-new.ensures.1 (is_decoded g c).kept

pub returns-clause-found : goal.returns-clause-found
returns-clause-found g c = (rw c.in-Some-new.ensures.1 (is_decoded g c).spells, refl)

pub returns-clause-bad : goal.returns-clause-bad
returns-clause-bad g c = grind (arith, common_steps)
