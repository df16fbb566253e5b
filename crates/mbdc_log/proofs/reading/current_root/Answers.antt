use Rattle.std.proofs.Common.{arith}
use Rattle.std.proofs.lemmas.Grind.{common_steps}
use Rattle.mbdc_log.proofs.reading.current_root.Goals as goal

pub returns-then-root-half_len-clause-counts : goal.returns-then-root-half_len-clause-counts
returns-then-root-half_len-clause-counts g c = grind (arith, common_steps)

pub returns-else-root-half_len-clause-counts : goal.returns-else-root-half_len-clause-counts
returns-else-root-half_len-clause-counts g c = grind (arith, common_steps)
