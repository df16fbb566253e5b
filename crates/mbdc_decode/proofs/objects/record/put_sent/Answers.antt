use Rattle.dc_records.specs.Record.{view}
use Rattle.mbdc_decode.specs.Object.{fields_tokens}
use Rattle.mbdc_decode.specs.Record.{sent_fields}
use Rattle.mbdc_decode.proofs.Adding.{◌>>◌, unchanged, said}
use Rattle.mbdc_decode.proofs.objects.record.put_sent.Goals as goal

pub returns : goal.returns
unfolding fields_tokens sent_fields
returns g c =
    said (fields_tokens (sent_fields (view c.args.found.now)))
    (c.put_count.ensures >> c.put_count-2.ensures >> c.put_count-3.ensures >> c.put_text.ensures >> c.put_hex.ensures >> c.put_hex-2.ensures >> unchanged) cc
