use Rattle.mbdc_poll.proofs.Missing.{readout_told}
use Rattle.mbdc_poll.proofs.laws.what_a_failed_readout_brought_is_told.Goals as goal

pub returns : goal.returns
returns g c = readout_told g.B.HalfBus
