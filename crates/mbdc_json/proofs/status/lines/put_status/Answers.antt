use Rattle.std.proofs.Common.{arith}
use Rattle.mbdc_io.proofs.Pieces.{written}
use Rattle.mbdc_json.specs.Status.{status_text}
use Rattle.mbdc_shown.specs.Room.{room_words}
use Rattle.mbdc_json.proofs.status.lines.put_status.Goals as goal

pub returns-in_err-put_row : goal.returns-in_err-put_row
unfolding status_text room_words
returns-in_err-put_row g c = grind (arith, written)

pub returns-in_err-put : goal.returns-in_err-put
unfolding status_text room_words
returns-in_err-put g c = grind (arith, written)

pub returns-in_err-put_number_word : goal.returns-in_err-put_number_word
unfolding status_text room_words
returns-in_err-put_number_word g c = grind (arith, written)

pub returns-in_err-put_number_word-2 : goal.returns-in_err-put_number_word-2
unfolding status_text room_words
returns-in_err-put_number_word-2 g c = grind (arith, written)

pub returns-in_err-put-2 : goal.returns-in_err-put-2
unfolding status_text room_words
returns-in_err-put-2 g c = grind (arith, written)

pub returns-in_err-put_number : goal.returns-in_err-put_number
unfolding status_text room_words
returns-in_err-put_number g c = grind (arith, written)

pub returns : goal.returns
unfolding status_text room_words
returns g c = grind (arith, written)
