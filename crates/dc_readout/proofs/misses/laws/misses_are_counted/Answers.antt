use Rattle.dc_readout.proofs.Counting.{are_counted}
use Rattle.dc_readout.proofs.misses.laws.misses_are_counted.Goals as goal

pub returns : goal.returns
returns c = are_counted
