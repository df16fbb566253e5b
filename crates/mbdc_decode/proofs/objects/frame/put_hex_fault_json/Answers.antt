use Rattle.std.proofs.Common.{append_assoc, append-nil}
use Rattle.json.specs.Tree.{json_tokens}
use Rattle.mbdc_decode.proofs.ObjectTexts.{members_are, fields-append}
use Rattle.mbdc_decode.proofs.Adding.{◌>>◌, unchanged, said}
use Rattle.mbdc_decode.specs.Frame.{hex_fault_json, hex_fault_fields}
use Rattle.mbdc_decode.proofs.objects.frame.put_hex_fault_json.Goals as goal

pub returns : goal.returns
unfolding hex_fault_json hex_fault_fields
returns g c =
    said (json_tokens (hex_fault_json c.args.line))
    (c.begin_object.ensures >> c.put_place.ensures >> c.put_fault.ensures >> c.end_object.ensures >> unchanged) (simp (members_are, fields-append, append_assoc, append-nil))
