use Rattle.std.proofs.Common.{arith}
use Rattle.std.proofs.lemmas.Grind.{common_steps}
use Rattle.mbdc_audit.proofs.evidence.decoded.Goals as goal

pub returns-in_err-body-clause-ok : goal.returns-in_err-body-clause-ok
returns-in_err-body-clause-ok g c = grind (arith, common_steps)

pub returns-in_err-body-clause-memory : goal.returns-in_err-body-clause-memory
returns-in_err-body-clause-memory g c = grind (arith, common_steps)

pub returns-in_default-push-clause-memory : goal.returns-in_default-push-clause-memory
returns-in_default-push-clause-memory g c = grind (arith, common_steps)

pub bodies-preserved : goal.bodies-preserved
bodies-preserved g c = grind (arith, common_steps)

pub returns-clause-ok : goal.returns-clause-ok
returns-clause-ok g c = grind (arith, common_steps)
