use Rattle.std.proofs.Common.{arith}
use Rattle.mbdc_io.proofs.Pieces.{written}
use Rattle.dc_upload.specs.Window.{part_line}
use Rattle.dc_upload.proofs.window.write_part.Goals as goal

pub returns-in_err-put : goal.returns-in_err-put
unfolding part_line
returns-in_err-put g c = grind (arith, written)

pub returns-in_err-put_number_word : goal.returns-in_err-put_number_word
unfolding part_line
returns-in_err-put_number_word g c = grind (arith, written)

pub returns-in_err-put_number_word-2 : goal.returns-in_err-put_number_word-2
unfolding part_line
returns-in_err-put_number_word-2 g c = grind (arith, written)

pub returns-in_err-put-2 : goal.returns-in_err-put-2
unfolding part_line
returns-in_err-put-2 g c = grind (arith, written)

pub returns-in_err-put_hex : goal.returns-in_err-put_hex
unfolding part_line
returns-in_err-put_hex g c = grind (arith, written)

pub returns : goal.returns
unfolding part_line
returns g c = grind (arith, written)
