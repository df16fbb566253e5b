use Rattle.std.proofs.Common.{refl}
use Rattle.dc_records.specs.Telegram.{parsed}
use Rattle.dc_records.proofs.Spellings.Telegrams.{telegram_takes}
use Rattle.mbdc_change.proofs.body.Body.of.Goals as goal

pub invariant_of-result : goal.invariant_of-result
invariant_of-result c =
    let t = parsed c.args.telegram.now in
    rw (c.body-bytes.ensures.value, c.header.ensures.value, c.more_follows.ensures) (record {
      telegram = t;
      is_telegram = telegram_takes t.body t c.body-bytes.ensures.telegram;
      kept = refl;
      fits = rw c.body-bytes.ensures.value at c.if-bytes-gt-LONGEST_BODY.false;
    })
