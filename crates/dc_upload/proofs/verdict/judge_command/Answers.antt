use Rattle.std.proofs.Common.{arith}
use Rattle.dc_upload.proofs.Verdicts.{codes_of_faults}
use Rattle.dc_upload.specs.Verdict.{verdict_of}
use Rattle.dc_upload.proofs.verdict.judge_command.Goals as goal

pub returns-then-is_repeat-clause-verdict : goal.returns-then-is_repeat-clause-verdict
unfolding verdict_of
returns-then-is_repeat-clause-verdict g c = grind (arith, codes_of_faults)

pub returns-then-ordered-last-clause-verdict : goal.returns-then-ordered-last-clause-verdict
unfolding verdict_of
returns-then-ordered-last-clause-verdict g c = grind (arith, codes_of_faults)

pub returns-in-Ok-clause-verdict : goal.returns-in-Ok-clause-verdict
unfolding verdict_of
returns-in-Ok-clause-verdict g c = grind (arith, codes_of_faults)

pub returns-in-Ok-clause-accepted : goal.returns-in-Ok-clause-accepted
unfolding verdict_of
returns-in-Ok-clause-accepted g c = grind (arith, codes_of_faults)

pub returns-in-Err-clause-verdict : goal.returns-in-Err-clause-verdict
unfolding verdict_of
returns-in-Err-clause-verdict g c = grind (arith, codes_of_faults)
