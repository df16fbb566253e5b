use Rattle.std.proofs.Common.{arith}
use Rattle.std.proofs.lemmas.Grind.{common_steps}
use Rattle.mbdc_audit.proofs.engine.read_file.Goals as goal

pub returns-in_err-chunk-clause-read : goal.returns-in_err-chunk-clause-read
returns-in_err-chunk-clause-read g c = grind (arith, common_steps)

pub returns-in_err-chunk-clause-ok : goal.returns-in_err-chunk-clause-ok
returns-in_err-chunk-clause-ok g c = grind (arith, common_steps)

pub returns-in_err-chunk-clause-file : goal.returns-in_err-chunk-clause-file
returns-in_err-chunk-clause-file g c = grind (arith, common_steps)

pub returns-in_err-chunk-clause-long : goal.returns-in_err-chunk-clause-long
returns-in_err-chunk-clause-long g c = grind (arith, common_steps)

pub returns-in_default-clause-read : goal.returns-in_default-clause-read
returns-in_default-clause-read g c = grind (arith, common_steps)

pub returns-then-count-eq0-clause-read : goal.returns-then-count-eq0-clause-read
returns-then-count-eq0-clause-read g c = grind (arith, common_steps)

pub returns-then-count-eq0-clause-ok : goal.returns-then-count-eq0-clause-ok
returns-then-count-eq0-clause-ok g c = grind (arith, common_steps)

pub returns-then-count-eq0-clause-file : goal.returns-then-count-eq0-clause-file
returns-then-count-eq0-clause-file g c = grind (arith, common_steps)

pub returns-then-is_err-clause-read : goal.returns-then-is_err-clause-read
returns-then-is_err-clause-read g c = grind (arith, common_steps)

pub takes-smaller : goal.takes-smaller
takes-smaller g c = grind (arith, common_steps)

pub takes-preserved : goal.takes-preserved
takes-preserved g c = grind (arith, common_steps)

pub returns-clause-read : goal.returns-clause-read
returns-clause-read g c = grind (arith, common_steps)

pub returns-clause-ok : goal.returns-clause-ok
returns-clause-ok g c = grind (arith, common_steps)

pub returns-clause-long : goal.returns-clause-long
returns-clause-long g c = grind (arith, common_steps)
