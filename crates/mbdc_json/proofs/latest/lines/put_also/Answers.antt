use Rattle.std.proofs.Common.{arith}
use Rattle.mbdc_io.proofs.Pieces.{written}
use Rattle.mbdc_json.specs.LatestValues.{also_lines, also_line}
use Rattle.mbdc_json.proofs.latest.lines.put_also.Goals as goal

pub returns-in_err-put_sent : goal.returns-in_err-put_sent
unfolding also_lines also_line
returns-in_err-put_sent g c = grind (arith, written)

pub returns-in_err-put_pieces : goal.returns-in_err-put_pieces
unfolding also_lines also_line
returns-in_err-put_pieces g c = grind (arith, written)

pub returns-in_err-put_names : goal.returns-in_err-put_names
unfolding also_lines also_line
returns-in_err-put_names g c = grind (arith, written)

pub returns-in_err-put : goal.returns-in_err-put
unfolding also_lines also_line
returns-in_err-put g c = grind (arith, written)

pub returns : goal.returns
unfolding also_lines also_line
returns g c = grind (arith, written)
