use Rattle.std.proofs.Common.{arith}
use Rattle.mbdc_io.proofs.Pieces.{written}
use Rattle.mbdc_json.specs.LatestValues.{status_line}
use Rattle.mbdc_json.proofs.latest.status.put_status.Goals as goal

pub returns-in_err-put : goal.returns-in_err-put
unfolding status_line
returns-in_err-put g c = grind (arith, written)

pub returns-in_err-put_byte_word : goal.returns-in_err-put_byte_word
unfolding status_line
returns-in_err-put_byte_word g c = grind (arith, written)

pub returns-in_err-put_byte_words : goal.returns-in_err-put_byte_words
unfolding status_line
returns-in_err-put_byte_words g c = grind (arith, written)

pub returns : goal.returns
unfolding status_line
returns g c = grind (arith, written)
