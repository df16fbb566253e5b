use Rattle.std.proofs.Common.{arith}
use Rattle.mbdc_io.proofs.Pieces.{told}
use Rattle.mbdc_io.proofs.bytes.BytesSink.put.Goals as goal

pub returns-then-is_err-clause-front : goal.returns-then-is_err-clause-front
returns-then-is_err-clause-front g c = grind (arith, told)
