use Rattle.mbdc_theorems.proofs.Along.{undisturbed_readouts_end}
use Rattle.mbdc_theorems.proofs.laws.an_undisturbed_readout_ends_in_a_reading.Goals as goal

pub returns : goal.returns
returns c = undisturbed_readouts_end
