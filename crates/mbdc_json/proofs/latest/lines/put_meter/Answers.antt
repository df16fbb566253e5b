use Rattle.std.proofs.Common.{arith}
use Rattle.mbdc_io.proofs.Pieces.{written}
use Rattle.mbdc_json.specs.Latest.{meter_text}
use Rattle.mbdc_json.proofs.latest.lines.put_meter.Goals as goal

pub returns-in_err-put_pieces : goal.returns-in_err-put_pieces
unfolding meter_text
returns-in_err-put_pieces g c = grind (arith, written)

pub returns-in_err-put_pieces-2 : goal.returns-in_err-put_pieces-2
unfolding meter_text
returns-in_err-put_pieces-2 g c = grind (arith, written)

pub returns-in-Some : goal.returns-in-Some
unfolding meter_text
returns-in-Some g c = grind (arith, written)

pub returns-in-None : goal.returns-in-None
unfolding meter_text
returns-in-None g c = grind (arith, written)
