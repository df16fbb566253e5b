use Rattle.mbdc_decode.specs.Object.{fields_tokens}
use Rattle.mbdc_decode.specs.Frame.{place_fields}
use Rattle.mbdc_decode.proofs.Adding.{◌>>◌, unchanged, said}
use Rattle.mbdc_decode.proofs.objects.frame.put_place.Goals as goal

pub returns : goal.returns
unfolding fields_tokens place_fields
returns g c =
    said (fields_tokens (place_fields c.args.line c.args.kind.now))
    (c.put_count.ensures >> c.put_text.ensures >> unchanged) cc
