use Rattle.std.proofs.Common.{arith}
use Rattle.mbdc_io.proofs.Pieces.{written}
use Rattle.dc_readout.specs.Text.{tries_text}
use Rattle.dc_readout.proofs.misses.text.put_tries.Goals as goal

pub returns-in_err-put_number : goal.returns-in_err-put_number
unfolding tries_text
returns-in_err-put_number g c = grind (arith, written)

pub returns-then-tries-eq1 : goal.returns-then-tries-eq1
unfolding tries_text
returns-then-tries-eq1 g c = grind (arith, written)

pub returns-else-tries-eq1 : goal.returns-else-tries-eq1
unfolding tries_text
returns-else-tries-eq1 g c = grind (arith, written)
