use Rattle.std.proofs.Common.{arith}
use Rattle.mbdc_io.proofs.Pieces.{written}
use Rattle.dc_readout.specs.Text.{part_text}
use Rattle.dc_readout.proofs.misses.text.put_part.Goals as goal

pub returns-in_err-put : goal.returns-in_err-put
unfolding part_text
returns-in_err-put g c = grind (arith, written)

pub returns-in_err-put_number : goal.returns-in_err-put_number
unfolding part_text
returns-in_err-put_number g c = grind (arith, written)

pub returns : goal.returns
unfolding part_text
returns g c = grind (arith, written)
