use Rattle.std.proofs.Common.{arith}
use Rattle.mbdc_io.proofs.Pieces.{written}
use Rattle.mbdc_json.specs.Status.{row_text}
use Rattle.mbdc_json.proofs.status.lines.put_row.Goals as goal

pub returns-in_err-put_pieces : goal.returns-in_err-put_pieces
unfolding row_text
returns-in_err-put_pieces g c = grind (arith, written)

pub returns-in_err-put_heard : goal.returns-in_err-put_heard
unfolding row_text
returns-in_err-put_heard g c = grind (arith, written)

pub returns-in_err-put : goal.returns-in_err-put
unfolding row_text
returns-in_err-put g c = grind (arith, written)

pub returns-in_err-put_state : goal.returns-in_err-put_state
unfolding row_text
returns-in_err-put_state g c = grind (arith, written)

pub returns-in_err-put_pieces-2 : goal.returns-in_err-put_pieces-2
unfolding row_text
returns-in_err-put_pieces-2 g c = grind (arith, written)

pub returns : goal.returns
unfolding row_text
returns g c = grind (arith, written)
