use Rattle.std.proofs.Common.{arith}
use Rattle.std.proofs.lemmas.Grind.{common_steps}
use Rattle.mbdc_decode.specs.Frames.{long_line}
use Rattle.mbdc_decode.proofs.frames.put_long_before.Goals as goal

pub returns-clause-written : goal.returns-clause-written
unfolding long_line
returns-clause-written c = grind (arith, common_steps)
