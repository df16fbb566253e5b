use Rattle.std.proofs.Common.{arith}
use Rattle.mbdc_io.proofs.Pieces.{written}
use Rattle.dc_upload.specs.Register.{place_words}
use Rattle.dc_upload.proofs.register.put_place.Goals as goal

pub returns-in_err-put_word : goal.returns-in_err-put_word
unfolding place_words
returns-in_err-put_word g c = grind (arith, written)

pub returns-in_err-put_number_word : goal.returns-in_err-put_number_word
unfolding place_words
returns-in_err-put_number_word g c = grind (arith, written)

pub returns : goal.returns
unfolding place_words
returns g c = grind (arith, written)
