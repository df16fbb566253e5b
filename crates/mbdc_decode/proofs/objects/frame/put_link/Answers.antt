use Rattle.mbdc_decode.specs.Object.{fields_tokens}
use Rattle.mbdc_decode.specs.Frame.{link_fields}
use Rattle.mbdc_decode.proofs.Adding.{◌>>◌, unchanged, said}
use Rattle.mbdc_decode.proofs.objects.frame.put_link.Goals as goal

pub returns : goal.returns
unfolding fields_tokens link_fields
returns g c =
    said (fields_tokens (link_fields c.args.control c.args.address))
    (c.put_count.ensures >> c.put_text.ensures >> c.put_count-2.ensures >> unchanged) cc
