use Rattle.std.proofs.Common.{arith}
use Rattle.mbdc_io.proofs.Pieces.{written}
use Rattle.mbdc_decode.proofs.frames.put_frame.Goals as goal

pub returns-in_ok-put_long-in-Long-clause-wrote : goal.returns-in_ok-put_long-in-Long-clause-wrote
returns-in_ok-put_long-in-Long-clause-wrote g c = grind (arith, written)
