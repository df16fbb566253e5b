use Rattle.std.proofs.Common.{arith}
use Rattle.mbdc_io.proofs.Pieces.{written}
use Rattle.mbdc_fit.specs.Plan.{field_words, said}
use Rattle.mbdc_fit.proofs.list.verdict.put_wrong.Goals as goal

pub returns-in_err-put : goal.returns-in_err-put
unfolding said field_words
returns-in_err-put g c = grind (arith, written)

pub returns-in_err-put_number_word : goal.returns-in_err-put_number_word
unfolding said field_words
returns-in_err-put_number_word g c = grind (arith, written)

pub returns-in_err-put-2 : goal.returns-in_err-put-2
unfolding said field_words
returns-in_err-put-2 g c = grind (arith, written)

pub returns-in_err-put-3 : goal.returns-in_err-put-3
unfolding said field_words
returns-in_err-put-3 g c = grind (arith, written)

pub returns-in_err-put-4 : goal.returns-in_err-put-4
unfolding said field_words
returns-in_err-put-4 g c = grind (arith, written)

pub returns-in_err-put-5 : goal.returns-in_err-put-5
unfolding said field_words
returns-in_err-put-5 g c = grind (arith, written)

pub returns : goal.returns
unfolding said field_words
returns g c = grind (arith, written)
