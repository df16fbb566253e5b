use Rattle.std.proofs.Common.{arith}
use Rattle.mbdc_change.proofs.LineSpellings.{address_is_word}
use Rattle.mbdc_change.proofs.command.parse_fit.Goals as goal

pub returns-in_err-address-clause-only : goal.returns-in_err-address-clause-only
returns-in_err-address-clause-only c = grind (arith, address_is_word)

pub returns-in_err-address-2-clause-only : goal.returns-in_err-address-2-clause-only
returns-in_err-address-2-clause-only c = grind (arith, address_is_word)

pub returns-in_err-flat-clause-only : goal.returns-in_err-flat-clause-only
returns-in_err-flat-clause-only c = grind (arith, address_is_word)

pub returns-clause-found : goal.returns-clause-found
returns-clause-found c = grind (arith, address_is_word)

pub returns-clause-only : goal.returns-clause-only
returns-clause-only c = grind (arith, address_is_word)
