use Rattle.std.proofs.Common.{arith}
use Rattle.std.proofs.lemmas.Grind.{common_steps}
use Rattle.mbdc_reading.proofs.front.text_vib_len.Goals as goal

pub returns-in_err-text-clause-exact : goal.returns-in_err-text-clause-exact
returns-in_err-text-clause-exact c = grind (arith, common_steps)

pub returns-then-not-is_printed-clause-exact : goal.returns-then-not-is_printed-clause-exact
returns-then-not-is_printed-clause-exact c = grind (arith, common_steps)

pub returns-in_err-vifes-clause-exact : goal.returns-in_err-vifes-clause-exact
returns-in_err-vifes-clause-exact c = grind (arith, common_steps)

pub returns-clause-exact : goal.returns-clause-exact
returns-clause-exact c = grind (arith, common_steps)

pub returns-clause-within : goal.returns-clause-within
returns-clause-within c = grind (arith, common_steps)
