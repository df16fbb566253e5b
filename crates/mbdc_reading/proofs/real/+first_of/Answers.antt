use Rattle.std.proofs.Common.{arith}
use Rattle.std.proofs.lemmas.Grind.{common_steps}
use Rattle.mbdc_reading.specs.Real.{first_of}
use Rattle.mbdc_reading.proofs.real.+first_of.Goals as goal

pub returns-in_default-clause-exact : goal.returns-in_default-clause-exact
unfolding first_of
returns-in_default-clause-exact t c = grind (arith, common_steps)

pub first_of-requires : goal.first_of-requires
unfolding first_of
first_of-requires t c = grind (arith, common_steps)

pub returns-in-None-clause-exact : goal.returns-in-None-clause-exact
unfolding first_of
returns-in-None-clause-exact t c = grind (arith, common_steps)
