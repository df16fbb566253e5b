use Rattle.std.proofs.Common.{arith}
use Rattle.mbdc_io.proofs.Digits.{words}
use Rattle.mbdc_decode.proofs.line.put_hex_word_before.Goals as goal

pub returns-then-is_empty-clause-written : goal.returns-then-is_empty-clause-written
returns-then-is_empty-clause-written c = grind (arith, words)

pub returns-clause-written : goal.returns-clause-written
returns-clause-written c = grind (arith, words)
