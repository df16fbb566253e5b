use Rattle.std.proofs.Common.{arith}
use Rattle.mbdc_io.proofs.Values.{PAIRS_at}
use Rattle.mbdc_io.proofs.hex.pair_of.Goals as goal

pub returns : goal.returns
returns c = grind (arith, PAIRS_at)
