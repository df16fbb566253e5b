use Rattle.std.proofs.Common.{arith}
use Rattle.mbdc_io.proofs.Pieces.{written}
use Rattle.dc_core.proofs.telling.put_asked.Goals as goal

pub returns-in_default : goal.returns-in_default
returns-in_default g c = grind (arith, written)

pub returns-in_err-put : goal.returns-in_err-put
returns-in_err-put g c = grind (arith, written)

pub returns-in_err-put_hex : goal.returns-in_err-put_hex
returns-in_err-put_hex g c = grind (arith, written)

pub returns : goal.returns
returns g c = grind (arith, written)
