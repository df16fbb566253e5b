use Rattle.std.proofs.Common.{arith}
use Rattle.std.proofs.lemmas.Grind.{common_steps}
use Rattle.mbdc_audit.proofs.smallest.of_decimal.Goals as goal

pub returns-then-decimal-lt0-clause-value : goal.returns-then-decimal-lt0-clause-value
returns-then-decimal-lt0-clause-value c = grind (arith, common_steps)

pub returns-then-decimal-lt0-clause-digits : goal.returns-then-decimal-lt0-clause-digits
returns-then-decimal-lt0-clause-digits c = grind (arith, common_steps)

pub returns-then-n-eq0-clause-value : goal.returns-then-n-eq0-clause-value
returns-then-n-eq0-clause-value c = grind (arith, common_steps)

pub returns-then-n-eq0-clause-digits : goal.returns-then-n-eq0-clause-digits
returns-then-n-eq0-clause-digits c = grind (arith, common_steps)

pub returns-in_err-checked_mul-clause-value : goal.returns-in_err-checked_mul-clause-value
returns-in_err-checked_mul-clause-value c = grind (arith, common_steps)

pub returns-in_err-checked_mul-clause-digits : goal.returns-in_err-checked_mul-clause-digits
returns-in_err-checked_mul-clause-digits c = grind (arith, common_steps)

pub returns-then-decimal-lt0-2-clause-value : goal.returns-then-decimal-lt0-2-clause-value
returns-then-decimal-lt0-2-clause-value c = grind (arith, common_steps)

pub returns-then-decimal-lt0-2-clause-digits : goal.returns-then-decimal-lt0-2-clause-digits
returns-then-decimal-lt0-2-clause-digits c = grind (arith, common_steps)

pub returns-in_ok-checked_mul-clause-value : goal.returns-in_ok-checked_mul-clause-value
returns-in_ok-checked_mul-clause-value c = grind (arith, common_steps)

pub returns-in_ok-checked_mul-clause-digits : goal.returns-in_ok-checked_mul-clause-digits
returns-in_ok-checked_mul-clause-digits c = grind (arith, common_steps)
