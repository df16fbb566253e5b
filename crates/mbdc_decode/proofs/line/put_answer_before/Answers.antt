use Rattle.std.proofs.Common.{arith}
use Rattle.std.proofs.lemmas.Grind.{common_steps}
use Rattle.mbdc_decode.specs.Seen.{point_text}
use Rattle.mbdc_decode.proofs.line.put_answer_before.Goals as goal

pub returns-in-Point-clause-written : goal.returns-in-Point-clause-written
unfolding point_text
returns-in-Point-clause-written c = grind (arith, common_steps)
