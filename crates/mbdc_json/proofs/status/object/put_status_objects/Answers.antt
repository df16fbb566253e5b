use Rattle.std.proofs.Common.{arith}
use Rattle.mbdc_io.proofs.Pieces.{written}
use Rattle.mbdc_json.specs.Object.{status_objects}
use Rattle.mbdc_json.proofs.status.object.put_status_objects.Goals as goal

pub returns-in_err-put_row : goal.returns-in_err-put_row
unfolding status_objects
returns-in_err-put_row g c = grind (arith, written)

pub returns : goal.returns
unfolding status_objects
returns g c = grind (arith, written)
