use Rattle.std.proofs.Common.{arith}
use Rattle.std.proofs.lemmas.Grind.{common_steps}
use Rattle.mbdc_decode.specs.Telegram.{meter_line}
use Rattle.mbdc_decode.proofs.telegram.put_meter.Goals as goal

pub returns : goal.returns
unfolding meter_line
returns g c = grind (arith, common_steps)
