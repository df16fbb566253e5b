use Rattle.std.proofs.Common.{arith}
use Rattle.std.proofs.lemmas.Grind.{common_steps}
use Rattle.mbdc_reading.specs.Codes.{code_in}
use Rattle.mbdc_reading.proofs.codes.code_in.Goals as goal

pub returns-then-number-last-clause-short : goal.returns-then-number-last-clause-short
unfolding code_in
returns-then-number-last-clause-short c = grind (arith, common_steps)

pub loop-rows-preserved : goal.loop-rows-preserved
unfolding code_in
loop-rows-preserved c = grind (arith, common_steps)

pub returns-clause-exact : goal.returns-clause-exact
unfolding code_in
returns-clause-exact c = grind (arith, common_steps)
