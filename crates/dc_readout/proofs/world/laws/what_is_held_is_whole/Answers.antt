use Rattle.dc_readout.proofs.Worlds.{held_is_whole}
use Rattle.dc_readout.proofs.world.laws.what_is_held_is_whole.Goals as goal

pub returns : goal.returns
returns c meters events regular = held_is_whole meters regular events
