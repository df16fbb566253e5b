use Rattle.std.proofs.Common.{arith}
use Rattle.mbdc_io.proofs.Pieces.{written}
use Rattle.dc_upload.specs.Window.{owner_words}
use Rattle.dc_upload.proofs.window.put_owner.Goals as goal

pub returns-in_err-put_word : goal.returns-in_err-put_word
unfolding owner_words
returns-in_err-put_word g c = grind (arith, written)

pub returns-in_err-put_word-2 : goal.returns-in_err-put_word-2
unfolding owner_words
returns-in_err-put_word-2 g c = grind (arith, written)

pub returns : goal.returns
unfolding owner_words
returns g c = grind (arith, written)
