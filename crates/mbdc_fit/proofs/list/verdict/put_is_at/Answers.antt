use Rattle.std.proofs.Common.{arith}
use Rattle.mbdc_io.proofs.Pieces.{written}
use Rattle.mbdc_fit.specs.Plan.{is_at_words, known_words}
use Rattle.mbdc_fit.proofs.list.verdict.put_is_at.Goals as goal

pub returns-in_err-put : goal.returns-in_err-put
unfolding is_at_words known_words
returns-in_err-put g c = grind (arith, written)

pub returns-in_err-put_mark : goal.returns-in_err-put_mark
unfolding is_at_words known_words
returns-in_err-put_mark g c = grind (arith, written)

pub returns-in-Some : goal.returns-in-Some
unfolding is_at_words known_words
returns-in-Some g c = grind (arith, written)

pub returns-in-None : goal.returns-in-None
unfolding is_at_words known_words
returns-in-None g c = grind (arith, written)
