use Rattle.std.proofs.Common.{arith}
use Rattle.mbdc_io.proofs.Pieces.{written}
use Rattle.dc_readout.specs.Text.{sentence_of}
use Rattle.dc_readout.proofs.misses.text.put_misses.Goals as goal

pub returns-in_err-put_tries : goal.returns-in_err-put_tries
unfolding sentence_of
returns-in_err-put_tries g c = grind (arith, written)

pub returns-in_err-put_silent : goal.returns-in_err-put_silent
unfolding sentence_of
returns-in_err-put_silent g c = grind (arith, written)

pub returns-in_err-put_noise : goal.returns-in_err-put_noise
unfolding sentence_of
returns-in_err-put_noise g c = grind (arith, written)

pub returns : goal.returns
unfolding sentence_of
returns g c = grind (arith, written)
