use Rattle.std.proofs.Common.{arith}
use Rattle.std.proofs.lemmas.Grind.{common_steps}
use Rattle.mbdc_audit.proofs.teller.Teller.quantity.Goals as goal

pub returns-in_err-rule-in-None-clause-found : goal.returns-in_err-rule-in-None-clause-found
returns-in_err-rule-in-None-clause-found g c = grind (arith, common_steps)

pub returns-in_err-rule-in-None-clause-one : goal.returns-in_err-rule-in-None-clause-one
returns-in_err-rule-in-None-clause-one g c = grind (arith, common_steps)
