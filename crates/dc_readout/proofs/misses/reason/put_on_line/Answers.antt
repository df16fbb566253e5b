use Rattle.std.proofs.Common.{arith}
use Rattle.mbdc_io.proofs.Pieces.{written}
use Rattle.dc_readout.specs.Reason.{line_of}
use Rattle.dc_readout.proofs.misses.reason.put_on_line.Goals as goal

pub returns-in_err-put_number_after : goal.returns-in_err-put_number_after
unfolding line_of
returns-in_err-put_number_after g c = grind (arith, written)

pub returns-in_err-put : goal.returns-in_err-put
unfolding line_of
returns-in_err-put g c = grind (arith, written)

pub returns : goal.returns
unfolding line_of
returns g c = grind (arith, written)
