use Rattle.std.proofs.Common.{arith}
use Rattle.mbdc_io.proofs.Pieces.{written}
use Rattle.mbdc_fit.specs.Plan.{said}
use Rattle.mbdc_fit.proofs.list.verdict.put_row.Goals as goal

pub returns-in_err-put : goal.returns-in_err-put
unfolding said
returns-in_err-put g c = grind (arith, written)

pub returns-in_err-put_number_word : goal.returns-in_err-put_number_word
unfolding said
returns-in_err-put_number_word g c = grind (arith, written)

pub returns-in_err-put-2 : goal.returns-in_err-put-2
unfolding said
returns-in_err-put-2 g c = grind (arith, written)

pub returns-in_err-put_verdict : goal.returns-in_err-put_verdict
unfolding said
returns-in_err-put_verdict g c = grind (arith, written)

pub returns : goal.returns
unfolding said
returns g c = grind (arith, written)
