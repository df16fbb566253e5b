use Rattle.json.specs.Tree.{json_tokens}
use Rattle.mbdc_decode.specs.Object.{object_of}
use Rattle.mbdc_decode.specs.Content.{security_fields}
use Rattle.mbdc_decode.proofs.Adding.{said}
use Rattle.mbdc_decode.proofs.objects.content.put_security_object.Goals as goal

pub returns : goal.returns
unfolding security_fields
returns g c =
    let n = c.security_name.ensures.value in
    let b = c.as_bytes.ensures.value in
    let o = c.count_cell.ensures in
    let m = c.from.ensures in
    let w = c.from-2.ensures in
    said (json_tokens (object_of (security_fields c.args.security c.args.config))) c.put_object.ensures cc
