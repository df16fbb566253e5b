use Rattle.std.proofs.Common.{arith}
use Rattle.mbdc_io.proofs.Pieces.{written}
use Rattle.mbdc_decode.proofs.Adding.{whole}
use Rattle.mbdc_decode.specs.JsonText.{value_line}
use Rattle.mbdc_poll.proofs.events.objects.put_object.Goals as goal

pub returns-in_err-outcome : goal.returns-in_err-outcome
unfolding value_line
returns-in_err-outcome g c = grind (arith, whole, written)

pub returns : goal.returns
unfolding value_line
returns g c = grind (arith, whole, written)
