use Rattle.json.specs.Tree.{json_tokens}
use Rattle.mbdc_decode.specs.Object.{object_of}
use Rattle.mbdc_decode.specs.Meter.{identity_fields}
use Rattle.mbdc_decode.proofs.Adding.{◌>>◌, unchanged, said}
use Rattle.mbdc_decode.proofs.objects.meter.put_meter.Goals as goal

pub returns : goal.returns
unfolding identity_fields
returns g c =
    said (json_tokens (object_of (identity_fields c.args.identity.now)))
    (c.begin_object.ensures >> c.put_name.ensures >> c.put_string.ensures >> c.put_name-2.ensures >> c.put_string-2.ensures >> c.put_name-3.ensures
    >> c.put_string-3.ensures >> c.put_count.ensures >> c.put_text.ensures >> c.put_count-2.ensures >> c.end_object.ensures >> unchanged) cc
