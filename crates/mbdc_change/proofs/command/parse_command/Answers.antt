use Rattle.std.proofs.Common.{arith, rules}
use Rattle.std.proofs.lemmas.Grind.{common_steps}
use Rattle.mbdc_change.proofs.command.parse_command.Goals as goal

pub returns-in-FIT-clause-found : goal.returns-in-FIT-clause-found
returns-in-FIT-clause-found c = grind (arith, common_steps)

pub returns-in-OUT-clause-found : goal.returns-in-OUT-clause-found
returns-in-OUT-clause-found c = grind (arith, common_steps)

pub returns-in-MOVE-clause-found : goal.returns-in-MOVE-clause-found
returns-in-MOVE-clause-found c = grind (arith, common_steps)

pub returns-in-SWAP-clause-found : goal.returns-in-SWAP-clause-found
returns-in-SWAP-clause-found c = grind (arith, common_steps)

pub returns-in-SWAP-clause-only : goal.returns-in-SWAP-clause-only
returns-in-SWAP-clause-only c = search rules

pub returns-in-CONFIRM-clause-found : goal.returns-in-CONFIRM-clause-found
returns-in-CONFIRM-clause-found c = grind (arith, common_steps)

pub returns-in-CONFIRM-clause-only : goal.returns-in-CONFIRM-clause-only
returns-in-CONFIRM-clause-only c = search rules

pub returns-in_default-clause-only : goal.returns-in_default-clause-only
returns-in_default-clause-only c = search rules
