use Rattle.std.proofs.Common.{[], ◌∷◌, append_assoc, append-nil, codes}
use Rattle.json.specs.Tree.{json_tokens}
use Rattle.mbdc_reading.specs.Content.{Content, content_view, fault_of}
use Rattle.mbdc_reading.specs.Reason.{reason_of}
use Rattle.mbdc_decode.specs.Object.{Field}
use Rattle.mbdc_decode.specs.Content.{content_json, fault_json, reason_json, refusal_fields}
use Rattle.mbdc_decode.proofs.ObjectTexts.{members_are, fields-append, fields-cons}
use Rattle.mbdc_decode.proofs.Adding.{◌>>◌, unchanged, said}
use Rattle.mbdc_decode.proofs.objects.content.put_content.Goals as goal

pub returns : goal.returns
unfolding content_json refusal_fields
returns g c =
    let k : Content = content_view c.args.content.now in
    let f = c.fault.ensures in
    let r = c.reason.ensures in
    let reason : Field = (codes "reason", reason_json (reason_of k)) in
    let e = fields-cons (codes "fault", fault_json (fault_of k)) (reason ∷ []) in
    said (json_tokens (content_json k))
    (c.begin_object.ensures >> c.put_known.ensures >> c.put_maybe_fault.ensures >> c.put_reason.ensures >> c.end_object.ensures >> unchanged)
    (simp (f, r, e, members_are, fields-append, append_assoc, append-nil))
