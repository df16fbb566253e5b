use Rattle.std.proofs.Common.{arith}
use Rattle.mbdc_io.proofs.Pieces.{written}
use Rattle.mbdc_json.specs.Values.{values_lines}
use Rattle.mbdc_json.proofs.values.put_value_objects.Goals as goal

pub returns-in_err-put_stands_line : goal.returns-in_err-put_stands_line
unfolding values_lines
returns-in_err-put_stands_line g c = grind (arith, written)

pub returns : goal.returns
unfolding values_lines
returns g c = grind (arith, written)
