use Rattle.std.proofs.Common.{arith}
use Rattle.std.proofs.lemmas.Grind.{common_steps}
use Rattle.dc_meters.proofs.house.House.check_telegram.Goals as goal

pub returns-then-size_with-from : goal.returns-then-size_with-from
returns-then-size_with-from g c = grind (arith, common_steps)

pub returns : goal.returns
returns g c = grind (arith, common_steps)
