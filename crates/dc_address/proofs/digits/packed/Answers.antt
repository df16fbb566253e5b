use Rattle.std.proofs.Common.{arith}
use Rattle.std.proofs.lemmas.Grind.{common_steps}
use Rattle.dc_address.proofs.digits.packed.Goals as goal

pub overflow_mul-result : goal.overflow_mul-result
overflow_mul-result c = grind (arith, common_steps)

pub overflow_add-result : goal.overflow_add-result
overflow_add-result c = grind (arith, common_steps)

pub overflow_mul-result-2 : goal.overflow_mul-result-2
overflow_mul-result-2 c = grind (arith, common_steps)

pub overflow_add-result-2 : goal.overflow_add-result-2
overflow_add-result-2 c = grind (arith, common_steps)

pub overflow_mul-result-3 : goal.overflow_mul-result-3
overflow_mul-result-3 c = grind (arith, common_steps)

pub overflow_add-result-3 : goal.overflow_add-result-3
overflow_add-result-3 c = grind (arith, common_steps)

pub overflow_mul-result-4 : goal.overflow_mul-result-4
overflow_mul-result-4 c = grind (arith, common_steps)

pub overflow_add-result-4 : goal.overflow_add-result-4
overflow_add-result-4 c = grind (arith, common_steps)

pub returns : goal.returns
returns c = grind (arith, common_steps)
