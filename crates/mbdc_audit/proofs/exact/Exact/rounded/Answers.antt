use Rattle.std.proofs.Common.{arith}
use Rattle.std.proofs.lemmas.Grind.{common_steps}
use Rattle.mbdc_audit.proofs.exact.Exact.rounded.Goals as goal

pub returns-in_err-scaled-clause-rounded : goal.returns-in_err-scaled-clause-rounded
returns-in_err-scaled-clause-rounded c = grind (arith, common_steps)

pub returns-in_err-scaled-clause-few : goal.returns-in_err-scaled-clause-few
returns-in_err-scaled-clause-few c = grind (arith, common_steps)

pub returns-in_err-checked_mul-clause-rounded : goal.returns-in_err-checked_mul-clause-rounded
returns-in_err-checked_mul-clause-rounded c = grind (arith, common_steps)

pub returns-in_err-checked_mul-clause-few : goal.returns-in_err-checked_mul-clause-few
returns-in_err-checked_mul-clause-few c = grind (arith, common_steps)

pub returns-in_err-doubled-clause-rounded : goal.returns-in_err-doubled-clause-rounded
returns-in_err-doubled-clause-rounded c = grind (arith, common_steps)

pub returns-in_err-doubled-clause-few : goal.returns-in_err-doubled-clause-few
returns-in_err-doubled-clause-few c = grind (arith, common_steps)

pub returns-in_err-rounded-clause-rounded : goal.returns-in_err-rounded-clause-rounded
returns-in_err-rounded-clause-rounded c = grind (arith, common_steps)

pub returns-in_err-rounded-clause-few : goal.returns-in_err-rounded-clause-few
returns-in_err-rounded-clause-few c = grind (arith, common_steps)
