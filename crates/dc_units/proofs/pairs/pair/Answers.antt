use Rattle.std.proofs.Common.{arith}
use Rattle.dc_units.proofs.DayTexts.{tens_digit, ones_digit, pair_of_digits}
use Rattle.dc_units.proofs.pairs.pair.Goals as goal

pub returns-in_err-digit-clause-only : goal.returns-in_err-digit-clause-only
returns-in_err-digit-clause-only c = grind (arith, tens_digit, ones_digit, pair_of_digits)

pub returns-in_err-digit-2-clause-only : goal.returns-in_err-digit-2-clause-only
returns-in_err-digit-2-clause-only c = grind (arith, tens_digit, ones_digit, pair_of_digits)

pub returns-clause-found : goal.returns-clause-found
returns-clause-found c = grind (arith, tens_digit, ones_digit, pair_of_digits)

pub returns-clause-only : goal.returns-clause-only
returns-clause-only c = grind (arith, tens_digit, ones_digit, pair_of_digits)
