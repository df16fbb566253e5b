use Rattle.std.proofs.Common.{arith}
use Rattle.std.proofs.lemmas.Grind.{common_steps}
use Rattle.mbdc_fit.specs.Order.{order_text, order_refusal, taken_by}
use Rattle.mbdc_io.proofs.Pieces.{written}
use Rattle.mbdc_fit.proofs.list.order.put_order.Goals as goal

pub returns-in_ok-put-in-Refused-Unknown : goal.returns-in_ok-put-in-Refused-Unknown
unfolding order_text order_refusal taken_by
returns-in_ok-put-in-Refused-Unknown g c = grind (arith, common_steps)

pub returns-in_err-put-in-Refused-Unknown : goal.returns-in_err-put-in-Refused-Unknown
unfolding order_text order_refusal taken_by
returns-in_err-put-in-Refused-Unknown g c = grind (arith, written)

pub returns-in-Spent : goal.returns-in-Spent
unfolding order_text order_refusal taken_by
returns-in-Spent g c = grind (arith, written)

pub returns-in-Refused-Full : goal.returns-in-Refused-Full
unfolding order_text order_refusal taken_by
returns-in-Refused-Full g c = grind (arith, written)
