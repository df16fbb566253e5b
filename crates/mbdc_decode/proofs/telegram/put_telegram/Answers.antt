use Rattle.std.proofs.Common.{arith}
use Rattle.mbdc_io.proofs.Pieces.{written}
use Rattle.mbdc_decode.specs.Telegram.{telegram_text}
use Rattle.mbdc_decode.proofs.telegram.put_telegram.Goals as goal

pub returns-in_err-put_meter : goal.returns-in_err-put_meter
unfolding telegram_text
returns-in_err-put_meter g c = grind (arith, written)

pub returns-in_err-put_records : goal.returns-in_err-put_records
unfolding telegram_text
returns-in_err-put_records g c = grind (arith, written)

pub returns : goal.returns
unfolding telegram_text
returns g c = grind (arith, written)
