use Rattle.mbdc_theorems.proofs.Beside.{readouts_end_beside_others}
use Rattle.mbdc_theorems.proofs.laws.a_readout_beside_others_ends_in_a_reading.Goals as goal

pub returns : goal.returns
returns c = readouts_end_beside_others
