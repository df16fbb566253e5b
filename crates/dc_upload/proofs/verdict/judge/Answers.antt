use Rattle.std.proofs.Common.{arith}
use Rattle.std.proofs.lemmas.Grind.{common_steps}
use Rattle.dc_upload.specs.Verdict.{verdict_of}
use Rattle.dc_upload.proofs.verdict.judge.Goals as goal

pub returns-in-Command-clause-verdict : goal.returns-in-Command-clause-verdict
unfolding verdict_of
returns-in-Command-clause-verdict g c = grind (arith, common_steps)

pub returns-in-Command-clause-accepted : goal.returns-in-Command-clause-accepted
unfolding verdict_of
returns-in-Command-clause-accepted g c = grind (arith, common_steps)

pub returns-in-Window-clause-verdict : goal.returns-in-Window-clause-verdict
unfolding verdict_of
returns-in-Window-clause-verdict g c = grind (arith, common_steps)

pub returns-in-Window-clause-accepted : goal.returns-in-Window-clause-accepted
unfolding verdict_of
returns-in-Window-clause-accepted g c = grind (arith, common_steps)

pub returns-in-Register-clause-verdict : goal.returns-in-Register-clause-verdict
unfolding verdict_of
returns-in-Register-clause-verdict g c = grind (arith, common_steps)
