use Rattle.dc_records.specs.Record.{view}
use Rattle.mbdc_decode.specs.Object.{fields_tokens}
use Rattle.mbdc_decode.specs.Record.{vife_fields}
use Rattle.mbdc_decode.proofs.Adding.{◌>>◌, unchanged, said}
use Rattle.mbdc_decode.proofs.objects.record.put_vife_fields.Goals as goal

pub returns : goal.returns
unfolding fields_tokens vife_fields
returns g c =
    said (fields_tokens (vife_fields (view c.args.found.now) c.args.vib.now c.args.reading.now))
    (c.put_word.ensures >> c.put_word-2.ensures >> c.put_maybe_hex.ensures >> c.put_maybe.ensures >> c.put_maybe_flag.ensures >> unchanged) cc
