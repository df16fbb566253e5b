use Rattle.std.proofs.Common.{append-nil}
use Rattle.json.specs.Tree.{json_tokens}
use Rattle.mbdc_decode.proofs.ObjectTexts.{members_are}
use Rattle.mbdc_decode.proofs.Adding.{◌>>◌, unchanged, said}
use Rattle.mbdc_poll.specs.Object.{json_of}
use Rattle.mbdc_poll.proofs.events.objects.put_json.Goals as goal

pub returns : goal.returns
returns g c =
    said (json_tokens (json_of c.args.event.now))
    (c.begin_object.ensures >> c.put_fields.ensures >> c.end_object.ensures >> unchanged) (simp (members_are, append-nil))
