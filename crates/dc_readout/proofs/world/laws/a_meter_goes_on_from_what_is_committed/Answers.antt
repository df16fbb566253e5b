use Rattle.dc_readout.proofs.Worlds.{every_meter_goes_on_from_committed}
use Rattle.dc_readout.proofs.world.laws.a_meter_goes_on_from_what_is_committed.Goals as goal

pub returns : goal.returns
returns c meters events regular = every_meter_goes_on_from_committed meters regular events
