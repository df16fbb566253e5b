use Rattle.std.proofs.Common.{arith}
use Rattle.mbdc_decode.proofs.Adding.{whole}
use Rattle.mbdc_io.proofs.Pieces.{written}
use Rattle.mbdc_decode.specs.JsonText.{value_line}
use Rattle.mbdc_decode.proofs.objects.body.put_body_line.Goals as goal

pub returns-in_err-outcome-clause-wrote : goal.returns-in_err-outcome-clause-wrote
unfolding value_line
returns-in_err-outcome-clause-wrote g c = grind (arith, whole, written)

pub returns-in_err-put-clause-wrote : goal.returns-in_err-put-clause-wrote
unfolding value_line
returns-in_err-put-clause-wrote g c = grind (arith, whole, written)

pub returns-clause-wrote : goal.returns-clause-wrote
unfolding value_line
returns-clause-wrote g c = grind (arith, whole, written)
