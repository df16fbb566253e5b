use Rattle.std.proofs.Common.{arith}
use Rattle.dc_units.proofs.DayTexts.{day_length}
use Rattle.dc_upload.proofs.line.parse_report.Goals as goal

pub returns-in_err-date-clause-found : goal.returns-in_err-date-clause-found
returns-in_err-date-clause-found c = grind (arith, day_length)

pub returns-in_err-date-clause-only : goal.returns-in_err-date-clause-only
returns-in_err-date-clause-only c = grind (arith, day_length)

pub returns-in_err-date-clause-fits : goal.returns-in_err-date-clause-fits
returns-in_err-date-clause-fits c = grind (arith, day_length)

pub returns-clause-found : goal.returns-clause-found
returns-clause-found c = grind (arith, day_length)

pub returns-clause-only : goal.returns-clause-only
returns-clause-only c = grind (arith, day_length)

pub returns-clause-fits : goal.returns-clause-fits
returns-clause-fits c = grind (arith, day_length)
