use Rattle.std.proofs.Common.{arith}
use Rattle.mbdc_io.proofs.Pieces.{written}
use Rattle.mbdc_json.specs.Overview.{sent_cells}
use Rattle.mbdc_json.proofs.overview.put_value.Goals as goal

pub returns-in_default : goal.returns-in_default
unfolding sent_cells
returns-in_default g c = grind (arith, written)

pub returns-in_default-next : goal.returns-in_default-next
unfolding sent_cells
returns-in_default-next g c = grind (arith, written)

pub returns-in_err-put_word : goal.returns-in_err-put_word
unfolding sent_cells
returns-in_err-put_word g c = grind (arith, written)

pub returns-in_err-put : goal.returns-in_err-put
unfolding sent_cells
returns-in_err-put g c = grind (arith, written)

pub returns-in_err-put_word-2 : goal.returns-in_err-put_word-2
unfolding sent_cells
returns-in_err-put_word-2 g c = grind (arith, written)

pub returns : goal.returns
unfolding sent_cells
returns g c = grind (arith, written)
