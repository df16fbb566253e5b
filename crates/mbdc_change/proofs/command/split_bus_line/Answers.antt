use Rattle.std.proofs.Common.{arith}
use Rattle.mbdc_change.proofs.LineSpellings.{line_is_word}
use Rattle.mbdc_change.proofs.command.split_bus_line.Goals as goal

pub returns-in_err-word-clause-only : goal.returns-in_err-word-clause-only
returns-in_err-word-clause-only c = grind (arith, line_is_word)

pub returns-in_err-parse_bus_line-clause-only : goal.returns-in_err-parse_bus_line-clause-only
returns-in_err-parse_bus_line-clause-only c = grind (arith, line_is_word)

pub returns-clause-only : goal.returns-clause-only
returns-clause-only c = grind (arith, line_is_word)
