use Rattle.mbdc_theorems.proofs.Carried.{readouts_of_a_poll_end}
use Rattle.mbdc_theorems.proofs.poll.laws.each_readout_of_a_poll_ends_in_a_reading.Goals as goal

pub returns : goal.returns
returns g c = readouts_of_a_poll_end {B = g.row.B.Denot} g.B.HalfBus
