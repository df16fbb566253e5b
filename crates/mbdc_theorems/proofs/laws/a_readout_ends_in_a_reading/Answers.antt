use Rattle.mbdc_theorems.proofs.Along.{readouts_end}
use Rattle.mbdc_theorems.proofs.laws.a_readout_ends_in_a_reading.Goals as goal

pub returns : goal.returns
returns c = readouts_end
