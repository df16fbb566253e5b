use Rattle.std.proofs.Common.{arith}
use Rattle.mbdc_io.proofs.Pieces.{written}
use Rattle.dc_upload.proofs.register.write_meters.Goals as goal

pub returns-in_err-write_meter : goal.returns-in_err-write_meter
returns-in_err-write_meter g c = grind (arith, written)

pub returns : goal.returns
returns g c = grind (arith, written)
