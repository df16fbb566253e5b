use Rattle.std.proofs.Common.{arith}
use Rattle.mbdc_io.proofs.Pieces.{written}
use Rattle.mbdc_json.specs.Overview.{overview_text}
use Rattle.mbdc_json.proofs.overview.put_overview.Goals as goal

pub returns-in_err-put : goal.returns-in_err-put
unfolding overview_text
returns-in_err-put g c = grind (arith, written)

pub returns-in_err-put_line : goal.returns-in_err-put_line
unfolding overview_text
returns-in_err-put_line g c = grind (arith, written)

pub returns : goal.returns
unfolding overview_text
returns g c = grind (arith, written)
