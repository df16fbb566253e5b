use Rattle.std.proofs.Common.{arith}
use Rattle.std.proofs.lemmas.Grind.{common_steps}
use Rattle.dc_poller.proofs.fold.fold_lines.Goals as goal

pub returns-then-len-gt-MOST-clause-ends : goal.returns-then-len-gt-MOST-clause-ends
returns-then-len-gt-MOST-clause-ends g c = grind (arith, common_steps)
