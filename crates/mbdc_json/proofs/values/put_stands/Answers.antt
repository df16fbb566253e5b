use Rattle.json.specs.Tree.{json_tokens}
use Rattle.mbdc_decode.proofs.Adding.{◌>>◌, unchanged, said}
use Rattle.mbdc_json.specs.Values.{stands_json}
use Rattle.mbdc_json.proofs.Told.{stands_as}
use Rattle.mbdc_json.proofs.values.put_stands.Goals as goal

pub returns : goal.returns
returns g c =
    said (json_tokens (stands_json c.args.place.now c.args.shown.now))
    (c.begin_object.ensures >> c.put_place.ensures >> c.put_name.ensures >> c.put_shown.ensures >> c.end_object.ensures >> unchanged)
    (stands_as c.args.place.now c.args.shown.now)
