use Rattle.mbdc_decode.specs.Object.{fields_tokens}
use Rattle.mbdc_decode.proofs.Adding.{◌>>◌, unchanged, said}
use Rattle.mbdc_shown.specs.Stand.{bodies_sent}
use Rattle.mbdc_shown.specs.Reported.{told_fields}
use Rattle.mbdc_shown.proofs.Told.{told_as}
use Rattle.mbdc_shown.proofs.reported.put_told.Goals as goal

pub returns : goal.returns
returns g c =
    said (fields_tokens (told_fields c.args.kind (bodies_sent c.args.bodies.now)))
    (c.put_headline.ensures >> c.put_listed.ensures >> c.put_listed-2.ensures >> unchanged)
    (told_as c.args.kind (bodies_sent c.args.bodies.now) c.new.result c.new-2.result c.new-3.result c.new.ensures c.new-2.ensures c.new-3.ensures)
