use Rattle.std.proofs.Common.{[], ◌∷◌, append_assoc, append-nil, option_map}
use Rattle.mbdc_decode.specs.Object.{fields_tokens}
use Rattle.mbdc_reading.specs.Fixed.{fixed_view}
use Rattle.mbdc_decode.specs.Content.{counters_field, counters_in}
use Rattle.mbdc_decode.proofs.ObjectTexts.{members_are, items_are, fields-append}
use Rattle.mbdc_decode.proofs.Adding.{◌>>◌, unchanged, said}
use Rattle.mbdc_decode.proofs.objects.content.put_counters_field.Goals as goal

pub returns : goal.returns
unfolding fields_tokens counters_field
returns g c =
    said (fields_tokens (counters_field (counters_in (option_map fixed_view c.args.found.now)) ∷ []))
    (c.put_name.ensures >> c.begin_array.ensures >> c.put_counters.ensures >> c.end_array.ensures >> unchanged) (simp (members_are, items_are, fields-append, append_assoc, append-nil))
