use Rattle.std.proofs.Common.{arith}
use Rattle.mbdc_io.proofs.Pieces.{written}
use Rattle.mbdc_bus.specs.Line.{trace_line}
use Rattle.mbdc_bus.proofs.trace.line.put_line.Goals as goal

pub returns-in_err-put_number : goal.returns-in_err-put_number
unfolding trace_line
returns-in_err-put_number g c = grind (arith, written)

pub returns-in_err-put_number_word : goal.returns-in_err-put_number_word
unfolding trace_line
returns-in_err-put_number_word g c = grind (arith, written)

pub returns-in_err-put : goal.returns-in_err-put
unfolding trace_line
returns-in_err-put g c = grind (arith, written)

pub returns-in_err-put_hex_word : goal.returns-in_err-put_hex_word
unfolding trace_line
returns-in_err-put_hex_word g c = grind (arith, written)

pub returns : goal.returns
unfolding trace_line
returns g c = grind (arith, written)
