use Rattle.std.proofs.Common.{append-nil, drop}
use Rattle.mbdc_reading.specs.Sent.{sent_at}
use Rattle.dc_records.specs.Telegram.{Parsed, parsed}
use Rattle.mbdc_decode.specs.Object.{fields_tokens}
use Rattle.mbdc_decode.specs.JsonTelegram.{header_fields, records_field, end_fields, telegram_fields}
use Rattle.mbdc_decode.proofs.ObjectTexts.{fields-around}
use Rattle.mbdc_decode.proofs.Adding.{◌>>◌, unchanged, said}
use Rattle.mbdc_decode.proofs.objects.telegram.put_telegram.Goals as goal

pub returns : goal.returns
unfolding telegram_fields header_fields
returns g c =
    let h = c.header-header.ensures in
    let t : Parsed = parsed c.args.telegram.now in
    let e = fields-around (header_fields t.header) (records_field (sent_at (drop 12 t.body))) (end_fields t.ending) in
    let n = append-nil (fields_tokens (end_fields t.ending)) in
    said (fields_tokens (telegram_fields t)) (c.put_row.ensures >> c.put_records_field.ensures >> c.put_end.ensures >> unchanged) cc
