use Rattle.std.proofs.Common.{arith}
use Rattle.std.proofs.lemmas.Grind.{common_steps}
use Rattle.mbdc_audit.proofs.house.House.check_number.Goals as goal

pub returns-in_err-check_facts-clause-ok : goal.returns-in_err-check_facts-clause-ok
returns-in_err-check_facts-clause-ok g c = grind (arith, common_steps)

pub returns-in_err-check_facts-clause-err : goal.returns-in_err-check_facts-clause-err
returns-in_err-check_facts-clause-err g c = grind (arith, common_steps)

pub returns-in_err-check_facts-2-clause-ok : goal.returns-in_err-check_facts-2-clause-ok
returns-in_err-check_facts-2-clause-ok g c = grind (arith, common_steps)

pub returns-in_err-check_facts-2-clause-err : goal.returns-in_err-check_facts-2-clause-err
returns-in_err-check_facts-2-clause-err g c = grind (arith, common_steps)

pub returns-clause-ok : goal.returns-clause-ok
returns-clause-ok g c = grind (arith, common_steps)

pub returns-clause-err : goal.returns-clause-err
returns-clause-err g c = grind (arith, common_steps)
