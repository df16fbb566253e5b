use Rattle.std.proofs.Common.{arith}
use Rattle.mbdc_change.proofs.LineSpellings.{number_is_word}
use Rattle.dc_upload.proofs.Texts.{bounds_fit}
use Rattle.dc_upload.proofs.line.parse_window.Goals as goal

pub returns-in_err-from-clause-found : goal.returns-in_err-from-clause-found
returns-in_err-from-clause-found c = grind (arith, number_is_word, bounds_fit)

pub returns-in_err-from-clause-only : goal.returns-in_err-from-clause-only
returns-in_err-from-clause-only c = grind (arith, number_is_word, bounds_fit)

pub returns-in_err-from-clause-fits : goal.returns-in_err-from-clause-fits
returns-in_err-from-clause-fits c = grind (arith, number_is_word, bounds_fit)

pub returns-in_err-from-2-clause-found : goal.returns-in_err-from-2-clause-found
returns-in_err-from-2-clause-found c = grind (arith, number_is_word, bounds_fit)

pub returns-in_err-from-2-clause-only : goal.returns-in_err-from-2-clause-only
returns-in_err-from-2-clause-only c = grind (arith, number_is_word, bounds_fit)

pub returns-in_err-from-2-clause-fits : goal.returns-in_err-from-2-clause-fits
returns-in_err-from-2-clause-fits c = grind (arith, number_is_word, bounds_fit)

pub returns-in_err-count-clause-found : goal.returns-in_err-count-clause-found
returns-in_err-count-clause-found c = grind (arith, number_is_word, bounds_fit)

pub returns-in_err-count-clause-only : goal.returns-in_err-count-clause-only
returns-in_err-count-clause-only c = grind (arith, number_is_word, bounds_fit)

pub returns-in_err-count-clause-fits : goal.returns-in_err-count-clause-fits
returns-in_err-count-clause-fits c = grind (arith, number_is_word, bounds_fit)

pub returns-then-from-eq0-clause-only : goal.returns-then-from-eq0-clause-only
returns-then-from-eq0-clause-only c = grind (arith, number_is_word, bounds_fit)

pub returns-clause-found : goal.returns-clause-found
returns-clause-found c = grind (arith, number_is_word, bounds_fit)

pub returns-clause-only : goal.returns-clause-only
returns-clause-only c = grind (arith, number_is_word, bounds_fit)

pub returns-clause-fits : goal.returns-clause-fits
returns-clause-fits c = grind (arith, number_is_word, bounds_fit)
