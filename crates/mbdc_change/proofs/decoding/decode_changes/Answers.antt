use Rattle.std.proofs.Common.{◌<◌, length, arith}
use Rattle.std.proofs.lemmas.Bool.Decides.{nat_tests}
use Rattle.std.proofs.lemmas.Grind.{common_steps}
use Rattle.mbdc_change.proofs.Runs.{none_spelled, read_on}
use Rattle.mbdc_change.proofs.decoding.decode_changes.Goals as goal

pub returns-in_err-change-clause-bad : goal.returns-in_err-change-clause-bad
returns-in_err-change-clause-bad g c = λ bad changes spells.
    let some : 0 < length c.loop-rest.rest.now = grind (arith, nat_tests) in
    none_spelled c.args.bytes.now c.loop-rest.changes.items changes c.loop-rest.rest.now c.loop-rest.invariant some c.in_err-change.ensures.1 spells

pub loop-rest-smaller : goal.loop-rest-smaller
loop-rest-smaller g c =
    let more = read_on c.args.bytes.now c.loop-rest.changes.items c.loop-rest.rest.now c.in_ok-change.change c.in_ok-change.after.now (λ i. omega (arith, c.type_inv.bytes i)) c.loop-rest.invariant c.in_ok-change.ensures in
    more.shorter

pub loop-rest-preserved : goal.loop-rest-preserved
loop-rest-preserved g c =
    let more = read_on c.args.bytes.now c.loop-rest.changes.items c.loop-rest.rest.now c.in_ok-change.change c.in_ok-change.after.now (λ i. omega (arith, c.type_inv.bytes i)) c.loop-rest.invariant c.in_ok-change.ensures in
    rw c.in_ok-push.ensures.items more.up_to

pub loop-rest-init : goal.loop-rest-init
loop-rest-init g c = grind (arith, common_steps)

pub returns-clause-found : goal.returns-clause-found
returns-clause-found g c = grind (arith, common_steps)
