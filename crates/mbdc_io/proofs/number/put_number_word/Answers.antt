use Rattle.std.proofs.Common.{arith}
use Rattle.mbdc_io.proofs.Pieces.{written}
use Rattle.std.proofs.lemmas.Fmt.{decimal_digit}
use Rattle.mbdc_io.proofs.number.put_number_word.Goals as goal

pub returns-then-number-lt10 : goal.returns-then-number-lt10
returns-then-number-lt10 g c = grind (arith, written, decimal_digit)

pub returns-in_err-put : goal.returns-in_err-put
returns-in_err-put g c = grind (arith, written, decimal_digit)

pub returns : goal.returns
returns g c = grind (arith, written, decimal_digit)
