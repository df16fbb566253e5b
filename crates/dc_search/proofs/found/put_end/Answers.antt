use Rattle.std.proofs.Common.{arith}
use Rattle.mbdc_io.proofs.Pieces.{written}
use Rattle.dc_search.proofs.found.put_end.Goals as goal

pub returns-in_err-put_budget : goal.returns-in_err-put_budget
returns-in_err-put_budget g c = grind (arith, written)

pub returns : goal.returns
returns g c = grind (arith, written)
