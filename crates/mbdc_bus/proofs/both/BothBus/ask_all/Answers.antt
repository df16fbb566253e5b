use Rattle.std.proofs.Common.{arith}
use Rattle.std.proofs.lemmas.Grind.{common_steps}
use Rattle.mbdc_bus.proofs.both.BothBus.ask_all.Goals as goal

pub returns-then-is_lost-clause-asked : goal.returns-then-is_lost-clause-asked
returns-then-is_lost-clause-asked g c = grind (arith, common_steps)

pub returns-clause-asked : goal.returns-clause-asked
returns-clause-asked g c = grind (arith, common_steps)
