use Rattle.std.proofs.Common.{arith}
use Rattle.std.proofs.lemmas.Grind.{common_steps}
use Rattle.mbdc_io.proofs.buffered.BufferedSink.put.Goals as goal

pub returns-then-has_place-clause-bytes : goal.returns-then-has_place-clause-bytes
returns-then-has_place-clause-bytes g c = grind (arith, common_steps)
