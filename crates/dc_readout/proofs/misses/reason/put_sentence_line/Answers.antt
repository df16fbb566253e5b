use Rattle.std.proofs.Common.{arith}
use Rattle.mbdc_io.proofs.Pieces.{written}
use Rattle.dc_readout.specs.Reason.{sentence_line}
use Rattle.dc_readout.proofs.misses.reason.put_sentence_line.Goals as goal

pub returns-in_err-put : goal.returns-in_err-put
unfolding sentence_line
returns-in_err-put g c = grind (arith, written)

pub returns-in_err-put_misses : goal.returns-in_err-put_misses
unfolding sentence_line
returns-in_err-put_misses g c = grind (arith, written)

pub returns : goal.returns
unfolding sentence_line
returns g c = grind (arith, written)
