use Rattle.std.proofs.Common.{arith, rules}
use Rattle.std.proofs.lemmas.Grind.{common_steps}
use Rattle.mbdc_decode.proofs.input.Input.read.Goals as goal

pub returns-in_err-bytes-clause-read : goal.returns-in_err-bytes-clause-read
returns-in_err-bytes-clause-read g c = grind (arith, common_steps)

pub returns-in_err-bytes-clause-ok : goal.returns-in_err-bytes-clause-ok
returns-in_err-bytes-clause-ok g c = grind (arith, common_steps)

pub returns-then-len-gt-MOST-clause-too_long : goal.returns-then-len-gt-MOST-clause-too_long
returns-then-len-gt-MOST-clause-too_long g c = grind (arith, common_steps)

pub returns-then-len-gt-MOST-clause-read : goal.returns-then-len-gt-MOST-clause-read
returns-then-len-gt-MOST-clause-read g c = grind (arith, common_steps)

pub returns-clause-bytes : goal.returns-clause-bytes
returns-clause-bytes g c = search rules

pub returns-clause-fits : goal.returns-clause-fits
returns-clause-fits g c = search rules

pub returns-clause-read : goal.returns-clause-read
returns-clause-read g c = grind (arith, common_steps)
