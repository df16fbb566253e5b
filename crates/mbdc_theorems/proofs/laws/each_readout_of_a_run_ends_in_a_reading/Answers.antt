use Rattle.mbdc_theorems.proofs.Rows.{readouts_of_a_run_end}
use Rattle.mbdc_theorems.proofs.laws.each_readout_of_a_run_ends_in_a_reading.Goals as goal

pub returns : goal.returns
returns c = readouts_of_a_run_end
