use Rattle.mbdc_decode.specs.Object.{fields_tokens}
use Rattle.mbdc_decode.proofs.Adding.{◌>>◌, unchanged, said}
use Rattle.mbdc_shown.specs.Reported.{reported_fields}
use Rattle.mbdc_shown.specs.Stand.{bodies_sent}
use Rattle.mbdc_shown.proofs.Told.{reported_as}
use Rattle.mbdc_shown.proofs.reported.put_reported.Goals as goal

pub returns : goal.returns
returns g c =
    said (fields_tokens (reported_fields c.args.moment c.args.status c.args.kind (bodies_sent c.args.bodies.now)))
    (c.put_received.ensures >> c.put_told.ensures >> unchanged)
    (reported_as c.args.moment c.args.status c.args.kind (bodies_sent c.args.bodies.now))
