use Rattle.std.proofs.Common.{arith}
use Rattle.mbdc_io.proofs.Pieces.{written}
use Rattle.mbdc_json.specs.Latest.{values_text}
use Rattle.mbdc_json.proofs.latest.lines.put_values.Goals as goal

pub returns-in_err-put_meter : goal.returns-in_err-put_meter
unfolding values_text
returns-in_err-put_meter g c = grind (arith, written)

pub returns : goal.returns
unfolding values_text
returns g c = grind (arith, written)
