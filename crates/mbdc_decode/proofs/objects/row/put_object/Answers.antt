use Rattle.std.proofs.Common.{append-nil}
use Rattle.json.specs.Tree.{json_tokens}
use Rattle.mbdc_decode.specs.Object.{object_of}
use Rattle.mbdc_decode.proofs.ObjectTexts.{members_are}
use Rattle.mbdc_decode.proofs.Adding.{◌>>◌, unchanged, said}
use Rattle.mbdc_decode.specs.Row.{row_fields}
use Rattle.mbdc_decode.proofs.objects.row.put_object.Goals as goal

pub returns : goal.returns
returns g c =
    said (json_tokens (object_of (row_fields c.args.row.now)))
    (c.begin_object.ensures >> c.put_row.ensures >> c.end_object.ensures >> unchanged) (simp (members_are, append-nil))
