use Rattle.std.proofs.Common.{arith}
use Rattle.mbdc_io.proofs.Pieces.{written}
use Rattle.mbdc_decode.proofs.telegram.put_end.Goals as goal

pub returns-in_err-put-in-Last : goal.returns-in_err-put-in-Last
returns-in_err-put-in-Last g c = grind (arith, written)

pub returns-in_err-put_number_word-in-Last : goal.returns-in_err-put_number_word-in-Last
returns-in_err-put_number_word-in-Last g c = grind (arith, written)

pub returns-in_err-put-in-More : goal.returns-in_err-put-in-More
returns-in_err-put-in-More g c = grind (arith, written)

pub returns-in_err-put_number_word-in-More : goal.returns-in_err-put_number_word-in-More
returns-in_err-put_number_word-in-More g c = grind (arith, written)

pub returns-in_ok-put_number_word-in-Last : goal.returns-in_ok-put_number_word-in-Last
returns-in_ok-put_number_word-in-Last g c = grind (arith, written)

pub returns-in_ok-put_number_word-in-More : goal.returns-in_ok-put_number_word-in-More
returns-in_ok-put_number_word-in-More g c = grind (arith, written)
