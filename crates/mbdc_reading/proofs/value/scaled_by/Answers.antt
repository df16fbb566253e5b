use Rattle.std.proofs.Common.{arith}
use Rattle.std.proofs.lemmas.Grind.{common_steps}
use Rattle.mbdc_reading.proofs.value.scaled_by.Goals as goal

pub overflow_add-from : goal.overflow_add-from
overflow_add-from c = grind (arith, common_steps)
