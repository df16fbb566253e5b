use Rattle.json.specs.Tree.{json_tokens}
use Rattle.mbdc_decode.proofs.Adding.{◌>>◌, unchanged, said}
use Rattle.mbdc_json.specs.Values.{reading_json}
use Rattle.mbdc_json.proofs.Told.{reading_as}
use Rattle.mbdc_json.proofs.values.put_reading.Goals as goal

pub returns : goal.returns
returns g c =
    said (json_tokens (reading_json c.args.kind c.args.shown.now))
    (c.begin_object.ensures >> c.put_count.ensures >> c.put_reported.ensures >> c.end_object.ensures >> unchanged)
    (reading_as c.args.kind c.args.shown.now)
