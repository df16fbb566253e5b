use Rattle.std.proofs.Common.{arith}
use Rattle.mbdc_io.proofs.Pieces.{written}
use Rattle.mbdc_fit.specs.Plan.{verdict_words, refusal_words}
use Rattle.mbdc_fit.proofs.list.verdict.put_verdict.Goals as goal

pub returns-in_err-put-in-Stands : goal.returns-in_err-put-in-Stands
unfolding verdict_words refusal_words
returns-in_err-put-in-Stands g c = grind (arith, written)

pub returns-in_ok-put-in-Stands : goal.returns-in_ok-put-in-Stands
unfolding verdict_words refusal_words
returns-in_ok-put-in-Stands g c = grind (arith, written)

pub returns-in-Spent : goal.returns-in-Spent
unfolding verdict_words refusal_words
returns-in-Spent g c = grind (arith, written)

pub returns-in-Refused-Full : goal.returns-in-Refused-Full
unfolding verdict_words refusal_words
returns-in-Refused-Full g c = grind (arith, written)
