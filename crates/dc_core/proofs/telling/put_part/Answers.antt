use Rattle.std.proofs.Common.{arith}
use Rattle.mbdc_io.proofs.Pieces.{written}
use Rattle.dc_core.proofs.telling.put_part.Goals as goal

pub returns-in_err-put : goal.returns-in_err-put
returns-in_err-put g c = grind (arith, written)

pub returns-in_err-put_number_word : goal.returns-in_err-put_number_word
returns-in_err-put_number_word g c = grind (arith, written)

pub returns-then-more : goal.returns-then-more
returns-then-more g c = grind (arith, written)

pub returns-else-more : goal.returns-else-more
returns-else-more g c = grind (arith, written)
