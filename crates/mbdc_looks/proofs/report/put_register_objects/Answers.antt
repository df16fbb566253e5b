use Rattle.std.proofs.Common.{arith}
use Rattle.mbdc_io.proofs.Pieces.{written}
use Rattle.mbdc_looks.specs.Report.{register_lines}
use Rattle.mbdc_looks.proofs.report.put_register_objects.Goals as goal

pub returns-in_err-put_meter : goal.returns-in_err-put_meter
unfolding register_lines
returns-in_err-put_meter g c = grind (arith, written)

pub returns : goal.returns
unfolding register_lines
returns g c = grind (arith, written)
