use Rattle.std.proofs.Common.{arith}
use Rattle.mbdc_io.proofs.Pieces.{written}
use Rattle.mbdc_fit.specs.Plan.{place_words}
use Rattle.mbdc_fit.proofs.list.verdict.put_place.Goals as goal

pub returns-in_err-put : goal.returns-in_err-put
unfolding place_words
returns-in_err-put g c = grind (arith, written)

pub returns-in_err-put_number_word : goal.returns-in_err-put_number_word
unfolding place_words
returns-in_err-put_number_word g c = grind (arith, written)

pub returns-in_err-put_mark : goal.returns-in_err-put_mark
unfolding place_words
returns-in_err-put_mark g c = grind (arith, written)

pub returns-in_err-put_address : goal.returns-in_err-put_address
unfolding place_words
returns-in_err-put_address g c = grind (arith, written)

pub returns-in_err-put_mark-2 : goal.returns-in_err-put_mark-2
unfolding place_words
returns-in_err-put_mark-2 g c = grind (arith, written)

pub returns : goal.returns
unfolding place_words
returns g c = grind (arith, written)
