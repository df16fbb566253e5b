use Rattle.dc_records.specs.Record.{view}
use Rattle.mbdc_decode.specs.Object.{fields_tokens}
use Rattle.mbdc_decode.specs.Record.{value_fields}
use Rattle.mbdc_decode.proofs.Adding.{◌>>◌, unchanged, said}
use Rattle.mbdc_decode.proofs.objects.record.put_value_fields.Goals as goal

pub returns : goal.returns
unfolding fields_tokens value_fields
returns g c =
    said (fields_tokens (value_fields (view c.args.found.now) c.args.unit.now c.args.reading.now))
    (c.put_text.ensures >> c.put_maybe.ensures >> c.put_unit_field.ensures >> c.put_word.ensures >> c.put_word-2.ensures >> unchanged) cc
