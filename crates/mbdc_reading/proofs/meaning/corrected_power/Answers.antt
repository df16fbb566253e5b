use Rattle.std.proofs.Common.{arith}
use Rattle.std.proofs.lemmas.Grind.{common_steps}
use Rattle.mbdc_reading.proofs.meaning.corrected_power.Goals as goal

pub from-requires : goal.from-requires
from-requires c = grind (arith, common_steps)

pub power_of-requires : goal.power_of-requires
power_of-requires c = grind (arith, common_steps)

pub overflow_add-from : goal.overflow_add-from
overflow_add-from c = grind (arith, common_steps)

pub fitting-requires : goal.fitting-requires
fitting-requires c = grind (arith, common_steps)

pub returns : goal.returns
returns c = grind (arith, common_steps)
