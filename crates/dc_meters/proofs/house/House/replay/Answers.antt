use Rattle.std.proofs.Common.{◌<◌, length, Err, ap, arith}
use Rattle.std.proofs.lemmas.Bool.Decides.{nat_tests}
use Rattle.std.proofs.lemmas.Result.{err_from_is_err_and}
use Rattle.mbdc_change.specs.declared.decode_fault.DecodeFault.{DecodeFault}
use Rattle.mbdc_change.specs.declared.decode_fault.DecodeFault.TheVariants.{NoMemory}
use Rattle.mbdc_change.proofs.Runs.{fault_is, is_bad, none_spelled, read_on}
use Rattle.dc_meters.proofs.Replays.{up_to, held_up, apply_on, none_accepted, left_unread, left_refused}
use Rattle.dc_meters.proofs.house.House.replay.Goals as goal

pub returns-in_err-change-clause-bad : goal.returns-in_err-change-clause-bad
returns-in_err-change-clause-bad g c = λ bad changes spells accepted.
    let some : 0 < length c.loop-rest.rest.now = grind (arith, nat_tests) in
    none_spelled c.args.bytes.now c.loop-rest.invariant.changes changes c.loop-rest.rest.now (up_to c.loop-rest.invariant) some c.in_err-change.ensures.1 spells

pub accept-requires : goal.accept-requires
accept-requires g c =
    let more = read_on c.args.bytes.now c.loop-rest.invariant.changes c.loop-rest.rest.now c.in_ok-change.change c.in_ok-change.after.now (λ i. omega (arith, c.type_inv.bytes i)) (up_to c.loop-rest.invariant) c.in_ok-change.ensures in
    more.is_change

pub returns-in_err-accept-clause-bad : goal.returns-in_err-accept-clause-bad
returns-in_err-accept-clause-bad g c = λ bad changes spells accepted.
    let p = err_from_is_err_and c.from_residual-in_err-accept.result c.from_residual-in_err-accept.ensures.1 in
    let fault = is_bad c.from_residual-in_err-accept.result p.0 c.in_err-accept.field-0.0 p.1 p.2 bad in
    let some : 0 < length c.loop-rest.rest.now = grind (arith, nat_tests) in
    none_accepted c.args.self.now c.loop-rest.self c.args.bytes.now c.loop-rest.rest.now c.in_ok-change.change c.in_ok-change.after.now changes c.loop-rest.invariant some c.in_ok-change.ensures
    (c.in_err-accept.ensures.bad (ap (λ (e : DecodeFault). Err e) fault)) spells accepted

pub returns-in_err-accept-clause-no_memory : goal.returns-in_err-accept-clause-no_memory
returns-in_err-accept-clause-no_memory g c = λ none.
    let p = err_from_is_err_and c.from_residual-in_err-accept.result c.from_residual-in_err-accept.ensures.1 in
    let fault = fault_is c.from_residual-in_err-accept.result p.0 c.in_err-accept.field-0.0 NoMemory p.1 p.2 none in
    rw c.in_err-accept.ensures.err (held_up c.args.self.now c.loop-rest.self c.args.bytes.now c.loop-rest.rest.now c.in_ok-change.change c.in_ok-change.after.now
    (λ i. omega (arith, c.type_inv.bytes i)) c.loop-rest.invariant c.in_ok-change.ensures (c.in_err-accept.ensures.no_memory (ap (λ (e : DecodeFault). Err e) fault)))

pub loop-rest-smaller : goal.loop-rest-smaller
loop-rest-smaller g c =
    let more = read_on c.args.bytes.now c.loop-rest.invariant.changes c.loop-rest.rest.now c.in_ok-change.change c.in_ok-change.after.now (λ i. omega (arith, c.type_inv.bytes i)) (up_to c.loop-rest.invariant) c.in_ok-change.ensures in
    more.shorter

pub loop-rest-preserved : goal.loop-rest-preserved
loop-rest-preserved g c =
    apply_on c.args.self.now c.loop-rest.self c.accept.new.self c.args.bytes.now c.loop-rest.rest.now c.in_ok-change.change c.in_ok-change.after.now
    (λ i. omega (arith, c.type_inv.bytes i)) c.loop-rest.invariant c.in_ok-change.ensures c.in_ok-accept.ensures.accepted c.in_ok-accept.ensures.ok

pub returns-in_err-change-clause-left : goal.returns-in_err-change-clause-left
returns-in_err-change-clause-left g c = λ bad.
    left_unread c.args.self.now c.loop-rest.self c.args.bytes.now c.loop-rest.rest.now c.loop-rest.invariant c.in_err-change.ensures.1

pub returns-in_err-accept-clause-left : goal.returns-in_err-accept-clause-left
returns-in_err-accept-clause-left g c = λ bad.
    let p = err_from_is_err_and c.from_residual-in_err-accept.result c.from_residual-in_err-accept.ensures.1 in
    let fault = is_bad c.from_residual-in_err-accept.result p.0 c.in_err-accept.field-0.0 p.1 p.2 bad in
    rw c.in_err-accept.ensures.err (left_refused c.args.self.now c.loop-rest.self c.args.bytes.now c.loop-rest.rest.now c.in_ok-change.change c.in_ok-change.after.now
    c.loop-rest.invariant c.in_ok-change.ensures (c.in_err-accept.ensures.bad (ap (λ (e : DecodeFault). Err e) fault)))
