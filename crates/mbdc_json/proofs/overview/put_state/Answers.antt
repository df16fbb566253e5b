use Rattle.std.proofs.Common.{arith}
use Rattle.mbdc_io.proofs.Pieces.{written}
use Rattle.mbdc_json.specs.Overview.{state_cells}
use Rattle.mbdc_json.proofs.overview.put_state.Goals as goal

pub returns-in_err-put_age : goal.returns-in_err-put_age
unfolding state_cells
returns-in_err-put_age g c = grind (arith, written)

pub returns-in_err-put_pieces : goal.returns-in_err-put_pieces
unfolding state_cells
returns-in_err-put_pieces g c = grind (arith, written)

pub returns-in-Some-Some : goal.returns-in-Some-Some
unfolding state_cells
returns-in-Some-Some g c = grind (arith, written)

pub returns-in_default : goal.returns-in_default
unfolding state_cells
returns-in_default g c = grind (arith, written)
