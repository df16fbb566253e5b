use Rattle.std.proofs.Common.{arith}
use Rattle.mbdc_io.proofs.Pieces.{written}
use Rattle.mbdc_looks.proofs.text.put_found.Goals as goal

pub returns-in_err-put_place-in-Some : goal.returns-in_err-put_place-in-Some
returns-in_err-put_place-in-Some g c = grind (arith, written)

pub returns-in_ok-put_place-in-Some : goal.returns-in_ok-put_place-in-Some
returns-in_ok-put_place-in-Some g c = grind (arith, written)
