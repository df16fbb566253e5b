use Rattle.std.proofs.Common.{arith}
use Rattle.mbdc_io.proofs.Pieces.{written}
use Rattle.mbdc_decode.specs.Seen.{point_text}
use Rattle.mbdc_decode.proofs.seen.put_point_in.Goals as goal

pub returns-in_err-put : goal.returns-in_err-put
unfolding point_text
returns-in_err-put g c = grind (arith, written)

pub returns-in_err-put-in-Number : goal.returns-in_err-put-in-Number
unfolding point_text
returns-in_err-put-in-Number g c = grind (arith, written)

pub returns-in_ok-put-in-Number : goal.returns-in_ok-put-in-Number
unfolding point_text
returns-in_ok-put-in-Number g c = grind (arith, written)
