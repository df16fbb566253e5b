use Rattle.std.proofs.Common.{arith}
use Rattle.std.proofs.lemmas.Grind.{common_steps}
use Rattle.dc_records.specs.Body.{front_at}
use Rattle.dc_records.proofs.front.exact_front.Goals as goal

pub returns-in-15 : goal.returns-in-15
unfolding front_at
returns-in-15 c = grind (arith, common_steps)

pub returns-in-31 : goal.returns-in-31
unfolding front_at
returns-in-31 c = grind (arith, common_steps)

pub returns-in-47 : goal.returns-in-47
unfolding front_at
returns-in-47 c = grind (arith, common_steps)
