use Rattle.std.proofs.Common.{arith}
use Rattle.mbdc_io.proofs.Pieces.{written}
use Rattle.dc_readout.specs.Reason.{reason_line}
use Rattle.dc_readout.proofs.misses.reason.put_line.Goals as goal

pub returns-in_err-put : goal.returns-in_err-put
unfolding reason_line
returns-in_err-put g c = grind (arith, written)

pub returns-in_err-put_owner : goal.returns-in_err-put_owner
unfolding reason_line
returns-in_err-put_owner g c = grind (arith, written)

pub returns : goal.returns
unfolding reason_line
returns g c = grind (arith, written)
