use Rattle.std.proofs.Common.{arith}
use Rattle.mbdc_io.proofs.Pieces.{written}
use Rattle.mbdc_looks.specs.Text.{image_text}
use Rattle.mbdc_looks.proofs.text.put_image.Goals as goal

pub returns-in_err-put_slot : goal.returns-in_err-put_slot
unfolding image_text
returns-in_err-put_slot g c = grind (arith, written)

pub returns-in_err-put_slot-2 : goal.returns-in_err-put_slot-2
unfolding image_text
returns-in_err-put_slot-2 g c = grind (arith, written)

pub returns-in_err-put_found : goal.returns-in_err-put_found
unfolding image_text
returns-in_err-put_found g c = grind (arith, written)

pub returns-in_err-put_number_line-in-Some : goal.returns-in_err-put_number_line-in-Some
unfolding image_text
returns-in_err-put_number_line-in-Some g c = grind (arith, written)

pub returns-in-Some-refusal : goal.returns-in-Some-refusal
unfolding image_text
returns-in-Some-refusal g c = grind (arith, written)

pub returns-in-None-refusal : goal.returns-in-None-refusal
unfolding image_text
returns-in-None-refusal g c = grind (arith, written)
