use Rattle.std.proofs.Common.{arith}
use Rattle.std.proofs.lemmas.Grind.{common_steps}
use Rattle.mbdc_reading.specs.Units.{unit_in}
use Rattle.mbdc_reading.proofs.content.units.unit_in.Goals as goal

pub loop-rows-preserved : goal.loop-rows-preserved
unfolding unit_in
loop-rows-preserved c = grind (arith, common_steps)

pub returns : goal.returns
unfolding unit_in
returns c = grind (arith, common_steps)
