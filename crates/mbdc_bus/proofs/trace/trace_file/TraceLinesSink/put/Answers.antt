use Rattle.std.proofs.Common.{arith}
use Rattle.mbdc_io.proofs.Pieces.{told}
use Rattle.mbdc_bus.proofs.trace.trace_file.TraceLinesSink.put.Goals as goal

pub returns-then-is_err-clause-err : goal.returns-then-is_err-clause-err
returns-then-is_err-clause-err g c = grind (arith, told)
