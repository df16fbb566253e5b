use Rattle.std.proofs.Common.{arith}
use Rattle.mbdc_io.proofs.Pieces.{written}
use Rattle.mbdc_json.specs.LatestValues.{sent_words}
use Rattle.mbdc_json.proofs.latest.lines.put_sent.Goals as goal

pub returns-in_err-put_pieces : goal.returns-in_err-put_pieces
unfolding sent_words
returns-in_err-put_pieces g c = grind (arith, written)

pub returns-in_err-put_word : goal.returns-in_err-put_word
unfolding sent_words
returns-in_err-put_word g c = grind (arith, written)

pub returns-in_err-put : goal.returns-in_err-put
unfolding sent_words
returns-in_err-put g c = grind (arith, written)

pub returns : goal.returns
unfolding sent_words
returns g c = grind (arith, written)
