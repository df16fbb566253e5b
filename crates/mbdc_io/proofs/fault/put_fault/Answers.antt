use Rattle.std.proofs.Common.{arith}
use Rattle.mbdc_io.proofs.Pieces.{written}
use Rattle.mbdc_io.specs.Words.{fault_text}
use Rattle.mbdc_io.proofs.fault.put_fault.Goals as goal

pub returns-in_err-put_number : goal.returns-in_err-put_number
unfolding fault_text
returns-in_err-put_number g c = grind (arith, written)

pub returns-in_err-put : goal.returns-in_err-put
unfolding fault_text
returns-in_err-put g c = grind (arith, written)

pub returns : goal.returns
unfolding fault_text
returns g c = grind (arith, written)
