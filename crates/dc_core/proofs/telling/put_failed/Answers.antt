use Rattle.std.proofs.Common.{arith}
use Rattle.mbdc_io.proofs.Pieces.{written}
use Rattle.mbdc_io.specs.Words.{fault_line}
use Rattle.dc_core.proofs.telling.put_failed.Goals as goal

pub returns-in_default : goal.returns-in_default
unfolding fault_line
returns-in_default g c = grind (arith, written)

pub returns-in_err-put_failure : goal.returns-in_err-put_failure
unfolding fault_line
returns-in_err-put_failure g c = grind (arith, written)

pub returns : goal.returns
unfolding fault_line
returns g c = grind (arith, written)
