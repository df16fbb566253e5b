use Rattle.std.proofs.Common.{arith}
use Rattle.mbdc_io.proofs.Pieces.{written}
use Rattle.mbdc_json.specs.Overview.{overview_line}
use Rattle.mbdc_json.proofs.overview.put_line.Goals as goal

pub returns-in_err-put_pieces : goal.returns-in_err-put_pieces
unfolding overview_line
returns-in_err-put_pieces g c = grind (arith, written)

pub returns-in_err-put_pieces-2 : goal.returns-in_err-put_pieces-2
unfolding overview_line
returns-in_err-put_pieces-2 g c = grind (arith, written)

pub returns-in_err-put_value : goal.returns-in_err-put_value
unfolding overview_line
returns-in_err-put_value g c = grind (arith, written)

pub returns : goal.returns
unfolding overview_line
returns g c = grind (arith, written)
