use Rattle.std.proofs.Common.{arith}
use Rattle.std.proofs.lemmas.Grind.{common_steps}
use Rattle.mbdc_decode.specs.Telegram.{record_line}
use Rattle.mbdc_io.proofs.Pieces.{written}
use Rattle.mbdc_decode.proofs.telegram.put_record.Goals as goal

pub returns-then-has_few : goal.returns-then-has_few
unfolding record_line
returns-then-has_few g c = grind (arith, common_steps)

pub returns-in_err-put : goal.returns-in_err-put
unfolding record_line
returns-in_err-put g c = grind (arith, written)

pub returns-in_err-put_numbers : goal.returns-in_err-put_numbers
unfolding record_line
returns-in_err-put_numbers g c = grind (arith, written)

pub returns-in_err-put_hex_word : goal.returns-in_err-put_hex_word
unfolding record_line
returns-in_err-put_hex_word g c = grind (arith, written)

pub returns-in_err-put_hex_word-2 : goal.returns-in_err-put_hex_word-2
unfolding record_line
returns-in_err-put_hex_word-2 g c = grind (arith, written)

pub returns-in_err-put_seen : goal.returns-in_err-put_seen
unfolding record_line
returns-in_err-put_seen g c = grind (arith, written)

pub returns : goal.returns
unfolding record_line
returns g c = grind (arith, written)
