use Rattle.std.proofs.Common.{arith}
use Rattle.mbdc_io.proofs.Pieces.{written}
use Rattle.mbdc_decode.specs.Seen.{seen_word}
use Rattle.mbdc_decode.proofs.seen.put_seen.Goals as goal

pub returns-in_err-put : goal.returns-in_err-put
unfolding seen_word
returns-in_err-put g c = grind (arith, written)

pub returns-in-Point : goal.returns-in-Point
unfolding seen_word
returns-in-Point g c = grind (arith, written)

pub returns-in-Other : goal.returns-in-Other
unfolding seen_word
returns-in-Other g c = grind (arith, written)
