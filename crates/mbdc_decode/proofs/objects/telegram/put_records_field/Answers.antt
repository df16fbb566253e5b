use Rattle.std.proofs.Common.{[], ◌∷◌, append_assoc, append-nil}
use Rattle.mbdc_decode.specs.Object.{fields_tokens}
use Rattle.mbdc_decode.specs.JsonTelegram.{records_field}
use Rattle.mbdc_decode.proofs.ObjectTexts.{members_are, items_are, fields-append}
use Rattle.mbdc_decode.proofs.Adding.{◌>>◌, unchanged, said}
use Rattle.mbdc_decode.proofs.objects.telegram.put_records_field.Goals as goal

pub returns : goal.returns
unfolding fields_tokens records_field
returns g c =
    said (fields_tokens (records_field c.args.records ∷ []))
    (c.put_name.ensures >> c.begin_array.ensures >> c.put_records.ensures >> c.end_array.ensures >> unchanged) (simp (members_are, items_are, fields-append, append_assoc, append-nil))
