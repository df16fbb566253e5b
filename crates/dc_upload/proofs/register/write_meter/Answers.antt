use Rattle.std.proofs.Common.{arith}
use Rattle.mbdc_io.proofs.Pieces.{written}
use Rattle.dc_upload.specs.Register.{meter_line}
use Rattle.dc_upload.proofs.register.write_meter.Goals as goal

pub returns-in_err-put : goal.returns-in_err-put
unfolding meter_line
returns-in_err-put g c = grind (arith, written)

pub returns-in_err-put_place : goal.returns-in_err-put_place
unfolding meter_line
returns-in_err-put_place g c = grind (arith, written)

pub returns-in_err-put_word : goal.returns-in_err-put_word
unfolding meter_line
returns-in_err-put_word g c = grind (arith, written)

pub returns-in_err-put_number_word : goal.returns-in_err-put_number_word
unfolding meter_line
returns-in_err-put_number_word g c = grind (arith, written)

pub returns : goal.returns
unfolding meter_line
returns g c = grind (arith, written)
