use Rattle.std.proofs.Common.{arith}
use Rattle.std.proofs.lemmas.Grind.{common_steps}
use Rattle.dc_address.proofs.maker.is_maker.Goals as goal

pub returns-then-is_place-2 : goal.returns-then-is_place-2
returns-then-is_place-2 c = grind (arith, common_steps)

pub returns-else-is_place-2 : goal.returns-else-is_place-2
returns-else-is_place-2 c = grind (arith, common_steps)
