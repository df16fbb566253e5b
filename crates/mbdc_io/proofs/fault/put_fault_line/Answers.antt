use Rattle.std.proofs.Common.{arith}
use Rattle.mbdc_io.proofs.Pieces.{written}
use Rattle.mbdc_io.specs.Words.{fault_line}
use Rattle.mbdc_io.proofs.fault.put_fault_line.Goals as goal

pub returns-in_err-put : goal.returns-in_err-put
unfolding fault_line
returns-in_err-put g c = grind (arith, written)

pub returns-in_err-put-2 : goal.returns-in_err-put-2
unfolding fault_line
returns-in_err-put-2 g c = grind (arith, written)

pub returns-in_err-put_fault : goal.returns-in_err-put_fault
unfolding fault_line
returns-in_err-put_fault g c = grind (arith, written)

pub returns : goal.returns
unfolding fault_line
returns g c = grind (arith, written)
