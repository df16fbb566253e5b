use Rattle.std.proofs.Common.{arith}
use Rattle.mbdc_io.proofs.Pieces.{written}
use Rattle.dc_search.proofs.found.put_meter.Goals as goal

pub returns-in_err-put : goal.returns-in_err-put
returns-in_err-put g c = grind (arith, written)

pub returns-in_err-put-2 : goal.returns-in_err-put-2
returns-in_err-put-2 g c = grind (arith, written)

pub returns : goal.returns
returns g c = grind (arith, written)
