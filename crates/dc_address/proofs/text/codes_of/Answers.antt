use Rattle.std.proofs.Common.{arith}
use Rattle.std.proofs.lemmas.Grind.{common_steps}
use Rattle.dc_address.proofs.text.codes_of.Goals as goal

pub overflow_add-result : goal.overflow_add-result
overflow_add-result c = grind (arith, common_steps)

pub overflow_add-result-2 : goal.overflow_add-result-2
overflow_add-result-2 c = grind (arith, common_steps)

pub overflow_add-result-3 : goal.overflow_add-result-3
overflow_add-result-3 c = grind (arith, common_steps)

pub overflow_add-result-4 : goal.overflow_add-result-4
overflow_add-result-4 c = grind (arith, common_steps)

pub overflow_add-result-5 : goal.overflow_add-result-5
overflow_add-result-5 c = grind (arith, common_steps)

pub overflow_add-result-6 : goal.overflow_add-result-6
overflow_add-result-6 c = grind (arith, common_steps)

pub overflow_add-result-7 : goal.overflow_add-result-7
overflow_add-result-7 c = grind (arith, common_steps)

pub overflow_add-result-8 : goal.overflow_add-result-8
overflow_add-result-8 c = grind (arith, common_steps)

pub returns : goal.returns
returns c = grind (arith, common_steps)
