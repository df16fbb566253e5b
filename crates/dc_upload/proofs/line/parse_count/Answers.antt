use Rattle.std.proofs.Common.{arith}
use Rattle.std.proofs.lemmas.Grind.{common_steps}
use Rattle.dc_upload.proofs.line.parse_count.Goals as goal

pub returns-in_err-count-clause-found : goal.returns-in_err-count-clause-found
returns-in_err-count-clause-found c = grind (arith, common_steps)

pub returns-in_err-count-clause-only : goal.returns-in_err-count-clause-only
returns-in_err-count-clause-only c = grind (arith, common_steps)

pub returns-in-1-to-100-clause-found : goal.returns-in-1-to-100-clause-found
returns-in-1-to-100-clause-found c = grind (arith, common_steps)

pub returns-in-1-to-100-clause-only : goal.returns-in-1-to-100-clause-only
returns-in-1-to-100-clause-only c = grind (arith, common_steps)

pub returns-in_default-clause-only : goal.returns-in_default-clause-only
returns-in_default-clause-only c = grind (arith, common_steps)

pub returns-in_default-2-clause-only : goal.returns-in_default-2-clause-only
returns-in_default-2-clause-only c = grind (arith, common_steps)
