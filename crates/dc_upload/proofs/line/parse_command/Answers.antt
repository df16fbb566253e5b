use Rattle.std.proofs.Common.{arith}
use Rattle.std.proofs.lemmas.Grind.{common_steps}
use Rattle.dc_upload.proofs.line.parse_command.Goals as goal

pub returns-in_err-ordered-clause-found : goal.returns-in_err-ordered-clause-found
returns-in_err-ordered-clause-found c = grind (arith, common_steps)

pub returns-in_err-ordered-clause-only : goal.returns-in_err-ordered-clause-only
returns-in_err-ordered-clause-only c = grind (arith, common_steps)

pub returns-in_err-ordered-clause-fits : goal.returns-in_err-ordered-clause-fits
returns-in_err-ordered-clause-fits c = grind (arith, common_steps)

pub returns-clause-found : goal.returns-clause-found
returns-clause-found c = grind (arith, common_steps)

pub returns-clause-only : goal.returns-clause-only
returns-clause-only c = grind (arith, common_steps)

pub returns-clause-fits : goal.returns-clause-fits
returns-clause-fits c = grind (arith, common_steps)
