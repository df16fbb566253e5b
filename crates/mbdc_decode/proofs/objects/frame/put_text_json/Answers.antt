use Rattle.std.proofs.Common.{append_assoc, append-nil}
use Rattle.json.specs.Tree.{json_tokens}
use Rattle.mbdc_decode.proofs.ObjectTexts.{members_are}
use Rattle.mbdc_decode.proofs.Adding.{◌>>◌, unchanged, said}
use Rattle.mbdc_decode.specs.Frame.{text_json}
use Rattle.mbdc_decode.proofs.objects.frame.put_text_json.Goals as goal

pub returns-clause-tokens : goal.returns-clause-tokens
unfolding text_json
returns-clause-tokens g c =
    said (json_tokens (text_json c.args.line c.args.text.now))
    (c.begin_object.ensures >> c.put_shown-bad.ensures.tokens >> c.end_object.ensures >> unchanged) (simp (members_are, append_assoc, append-nil))
