use Rattle.std.proofs.Common.{arith}
use Rattle.mbdc_change.proofs.CommandSpellings.{line_read}
use Rattle.mbdc_change.specs.Command.{line_of}
use Rattle.mbdc_change.proofs.command.Command.parse_line.Goals as goal

pub returns-in_err-number-clause-only : goal.returns-in_err-number-clause-only
unfolding line_of
returns-in_err-number-clause-only c = grind (arith, line_read)

pub returns-in_err-number-2-clause-only : goal.returns-in_err-number-2-clause-only
unfolding line_of
returns-in_err-number-2-clause-only c = grind (arith, line_read)

pub returns-then-number-eq0-clause-only : goal.returns-then-number-eq0-clause-only
unfolding line_of
returns-then-number-eq0-clause-only c = grind (arith, line_read)

pub returns-in_err-command-clause-only : goal.returns-in_err-command-clause-only
unfolding line_of
returns-in_err-command-clause-only c = grind (arith, line_read)

pub returns-clause-only : goal.returns-clause-only
unfolding line_of
returns-clause-only c = grind (arith, line_read)

pub returns-clause-fits : goal.returns-clause-fits
unfolding line_of
returns-clause-fits c = grind (arith, line_read)
