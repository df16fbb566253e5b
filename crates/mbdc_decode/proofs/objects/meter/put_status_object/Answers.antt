use Rattle.json.specs.Tree.{json_tokens}
use Rattle.mbdc_decode.specs.Object.{object_of}
use Rattle.mbdc_decode.specs.Meter.{status_fields}
use Rattle.mbdc_decode.proofs.Adding.{◌>>◌, unchanged, said}
use Rattle.mbdc_decode.proofs.objects.meter.put_status_object.Goals as goal

pub returns : goal.returns
unfolding status_fields
returns g c =
    said (json_tokens (object_of (status_fields c.args.status)))
    (c.begin_object.ensures >> c.put_count.ensures >> c.put_text.ensures >> c.put_flag.ensures >> c.put_flag-2.ensures >> c.put_flag-3.ensures
    >> c.put_count-2.ensures >> c.end_object.ensures >> unchanged) cc
