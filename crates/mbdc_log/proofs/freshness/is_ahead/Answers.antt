use Rattle.std.proofs.Common.{arith}
use Rattle.std.proofs.lemmas.Grind.{common_steps}
use Rattle.mbdc_log.proofs.Ahead.{unstamped}
use Rattle.mbdc_log.proofs.freshness.is_ahead.Goals as goal

pub returns-in-None : goal.returns-in-None
returns-in-None c = (λ is. absurd (cc is), λ is. absurd (unstamped _ _ _ c.in-None.ensures is))

pub returns-else-stamp-session : goal.returns-else-stamp-session
returns-else-stamp-session c = grind (arith, common_steps)
