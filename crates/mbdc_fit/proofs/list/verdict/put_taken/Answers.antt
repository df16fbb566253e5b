use Rattle.std.proofs.Common.{arith}
use Rattle.mbdc_io.proofs.Pieces.{written}
use Rattle.mbdc_fit.specs.Plan.{holder_words, taken_words}
use Rattle.mbdc_fit.proofs.list.verdict.put_taken.Goals as goal

pub returns-in_err-put_mark : goal.returns-in_err-put_mark
unfolding taken_words holder_words
returns-in_err-put_mark g c = grind (arith, written)

pub returns-in_err-put_address : goal.returns-in_err-put_address
unfolding taken_words holder_words
returns-in_err-put_address g c = grind (arith, written)

pub returns-in_err-put_mark-2 : goal.returns-in_err-put_mark-2
unfolding taken_words holder_words
returns-in_err-put_mark-2 g c = grind (arith, written)

pub returns-in-Some : goal.returns-in-Some
unfolding taken_words holder_words
returns-in-Some g c = grind (arith, written)

pub returns-in-None : goal.returns-in-None
unfolding taken_words holder_words
returns-in-None g c = grind (arith, written)
