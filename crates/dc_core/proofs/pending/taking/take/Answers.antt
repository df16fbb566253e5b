use Rattle.std.proofs.Common.{arith}
use Rattle.std.proofs.lemmas.Grind.{common_steps}
use Rattle.dc_core.proofs.pending.taking.take.Goals as goal

pub returns-then-is_full-clause-refused : goal.returns-then-is_full-clause-refused
returns-then-is_full-clause-refused g c = grind (arith, common_steps)

pub returns-then-is_full-clause-accepted : goal.returns-then-is_full-clause-accepted
returns-then-is_full-clause-accepted g c = grind (arith, common_steps)

pub returns-then-is_full-clause-house : goal.returns-then-is_full-clause-house
returns-then-is_full-clause-house g c = grind (arith, common_steps)

pub returns-then-is_full-clause-waiting : goal.returns-then-is_full-clause-waiting
returns-then-is_full-clause-waiting g c = grind (arith, common_steps)

pub returns-in_default-clause-refused : goal.returns-in_default-clause-refused
returns-in_default-clause-refused g c = grind (arith, common_steps)

pub returns-in_default-clause-accepted : goal.returns-in_default-clause-accepted
returns-in_default-clause-accepted g c = grind (arith, common_steps)

pub returns-in_default-clause-house : goal.returns-in_default-clause-house
returns-in_default-clause-house g c = grind (arith, common_steps)

pub returns-in_default-clause-waiting : goal.returns-in_default-clause-waiting
returns-in_default-clause-waiting g c = grind (arith, common_steps)

pub returns-then-is_err-clause-house : goal.returns-then-is_err-clause-house
returns-then-is_err-clause-house g c = grind (arith, common_steps)

pub returns-then-is_err-clause-waiting : goal.returns-then-is_err-clause-waiting
returns-then-is_err-clause-waiting g c = grind (arith, common_steps)

pub apply-requires-clause-change : goal.apply-requires-clause-change
apply-requires-clause-change g c = grind (arith, common_steps)

pub returns-then-is_err-2-clause-accepted : goal.returns-then-is_err-2-clause-accepted
returns-then-is_err-2-clause-accepted g c = grind (arith, common_steps)

pub returns-then-is_err-2-clause-house : goal.returns-then-is_err-2-clause-house
returns-then-is_err-2-clause-house g c = grind (arith, common_steps)

pub returns-then-is_err-2-clause-waiting : goal.returns-then-is_err-2-clause-waiting
returns-then-is_err-2-clause-waiting g c = grind (arith, common_steps)

pub push-requires-clause-room : goal.push-requires-clause-room
push-requires-clause-room g c = grind (arith, common_steps)

pub push-requires-clause-is_change : goal.push-requires-clause-is_change
push-requires-clause-is_change g c = grind (arith, common_steps)

pub returns-clause-accepted : goal.returns-clause-accepted
returns-clause-accepted g c = grind (arith, common_steps)

pub is_full-requires : goal.is_full-requires
is_full-requires g c = grind (arith, common_steps)

pub returns-then-is_full-clause-ok : goal.returns-then-is_full-clause-ok
returns-then-is_full-clause-ok g c = grind (arith, common_steps)

pub of-requires : goal.of-requires
of-requires g c = grind (arith, common_steps)

pub returns-in_default-clause-ok : goal.returns-in_default-clause-ok
returns-in_default-clause-ok g c = grind (arith, common_steps)

pub as_slice-is_body-requires : goal.as_slice-is_body-requires
as_slice-is_body-requires g c = grind (arith, common_steps)

pub check-requires : goal.check-requires
check-requires g c κs = grind (arith, common_steps)

pub returns-then-is_err-clause-ok : goal.returns-then-is_err-clause-ok
returns-then-is_err-clause-ok g c = grind (arith, common_steps)

pub returns-then-is_err-2-clause-ok : goal.returns-then-is_err-2-clause-ok
returns-then-is_err-2-clause-ok g c = grind (arith, common_steps)

pub returns-clause-house : goal.returns-clause-house
returns-clause-house g c = grind (arith, common_steps)

pub returns-clause-waiting : goal.returns-clause-waiting
returns-clause-waiting g c = grind (arith, common_steps)
