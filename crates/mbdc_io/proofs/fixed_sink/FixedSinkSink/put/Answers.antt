use Rattle.std.proofs.Common.{arith}
use Rattle.std.proofs.lemmas.Grind.{common_steps}
use Rattle.mbdc_io.proofs.Pieces.{told}
use Rattle.mbdc_io.proofs.fixed_sink.FixedSinkSink.put.Goals as goal

pub returns-then-bytes-self-clause-err : goal.returns-then-bytes-self-clause-err
returns-then-bytes-self-clause-err g c = grind (arith, told)

pub returns-clause-bytes : goal.returns-clause-bytes
returns-clause-bytes g c = grind (arith, common_steps)

pub returns-clause-step : goal.returns-clause-step
returns-clause-step g c = grind (arith, common_steps)
