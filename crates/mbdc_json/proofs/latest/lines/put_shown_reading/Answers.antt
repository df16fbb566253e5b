use Rattle.std.proofs.Common.{arith}
use Rattle.mbdc_io.proofs.Pieces.{written}
use Rattle.mbdc_json.specs.LatestValues.{shown_lines}
use Rattle.mbdc_json.proofs.latest.lines.put_shown_reading.Goals as goal

pub returns-in_err-put_pieces : goal.returns-in_err-put_pieces
unfolding shown_lines
returns-in_err-put_pieces g c = grind (arith, written)

pub returns-in_err-put_status : goal.returns-in_err-put_status
unfolding shown_lines
returns-in_err-put_status g c = grind (arith, written)

pub returns-in_err-put_headline : goal.returns-in_err-put_headline
unfolding shown_lines
returns-in_err-put_headline g c = grind (arith, written)

pub returns-in_err-put_current : goal.returns-in_err-put_current
unfolding shown_lines
returns-in_err-put_current g c = grind (arith, written)

pub returns-in_err-put_also : goal.returns-in_err-put_also
unfolding shown_lines
returns-in_err-put_also g c = grind (arith, written)

pub returns : goal.returns
unfolding shown_lines
returns g c = grind (arith, written)
