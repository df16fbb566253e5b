use Rattle.std.proofs.Common.{arith}
use Rattle.std.proofs.lemmas.Grind.{common_steps}
use Rattle.dc_readout.proofs.world.world.World.step.Goals as goal

pub exchange-requires-clause-regular : goal.exchange-requires-clause-regular
exchange-requires-clause-regular g c = grind (arith, common_steps)
