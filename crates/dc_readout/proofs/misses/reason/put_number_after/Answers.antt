use Rattle.std.proofs.Common.{arith}
use Rattle.mbdc_io.proofs.Pieces.{written}
use Rattle.dc_readout.specs.Reason.{number_after}
use Rattle.dc_readout.proofs.misses.reason.put_number_after.Goals as goal

pub returns-in_err-put : goal.returns-in_err-put
unfolding number_after
returns-in_err-put g c = grind (arith, written)

pub returns : goal.returns
unfolding number_after
returns g c = grind (arith, written)
