use Rattle.std.proofs.Common.{arith}
use Rattle.std.proofs.lemmas.Grind.{common_steps}
use Rattle.mbdc_reading.specs.Fixed.{fixed_at}
use Rattle.mbdc_reading.proofs.content.fixed.FixedData.at.Goals as goal

pub returns : goal.returns
unfolding fixed_at
returns c = grind (arith, common_steps)
