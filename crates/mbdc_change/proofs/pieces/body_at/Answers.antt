use Rattle.std.proofs.Common.{arith}
use Rattle.mbdc_change.proofs.PieceSpellings.{body_read}
use Rattle.mbdc_change.specs.Reading.{body_at}
use Rattle.mbdc_change.proofs.pieces.body_at.Goals as goal

pub returns-in_default-clause-read : goal.returns-in_default-clause-read
unfolding body_at
returns-in_default-clause-read c = grind (arith, body_read)

pub returns-clause-read : goal.returns-clause-read
unfolding body_at
returns-clause-read c = grind (arith, body_read)
