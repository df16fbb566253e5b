use Rattle.std.proofs.Common.{arith}
use Rattle.mbdc_io.proofs.Pieces.{written}
use Rattle.mbdc_decode.specs.Telegram.{record_words}
use Rattle.mbdc_decode.proofs.telegram.put_numbers.Goals as goal

pub returns-in_err-put_number_word : goal.returns-in_err-put_number_word
unfolding record_words
returns-in_err-put_number_word g c = grind (arith, written)

pub returns-in_err-put_number_word-2 : goal.returns-in_err-put_number_word-2
unfolding record_words
returns-in_err-put_number_word-2 g c = grind (arith, written)

pub returns-in_err-put_number_word-3 : goal.returns-in_err-put_number_word-3
unfolding record_words
returns-in_err-put_number_word-3 g c = grind (arith, written)

pub returns : goal.returns
unfolding record_words
returns g c = grind (arith, written)
