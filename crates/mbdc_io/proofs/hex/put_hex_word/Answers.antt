use Rattle.std.proofs.Common.{arith}
use Rattle.mbdc_io.proofs.Digits.{word_of_one, words}
use Rattle.mbdc_io.proofs.Pieces.{written}
use Rattle.mbdc_io.proofs.hex.put_hex_word.Goals as goal

pub returns-in-len1 : goal.returns-in-len1
returns-in-len1 g c = rw (word_of_one c.args.bytes.now (omega arith)) c.put_byte_word.ensures

pub returns-in-empty : goal.returns-in-empty
returns-in-empty g c = grind (arith, written, words)

pub returns-in_default : goal.returns-in_default
returns-in_default g c = grind (arith, written, words)
