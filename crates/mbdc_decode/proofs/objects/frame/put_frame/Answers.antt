use Rattle.std.proofs.Common.{◌++◌, codes, append-nil, ap, sym, ◌∙◌}
use Rattle.dc_linkframe.specs.declared.frame.Frame.{Frame}
use Rattle.dc_linkframe.specs.Frame.{seen}
use Rattle.mbdc_decode.specs.Object.{fields_tokens}
use Rattle.mbdc_decode.specs.Frame.{place_fields, link_fields, ci_fields, content_fields, frame_fields}
use Rattle.mbdc_decode.proofs.ObjectTexts.{fields-append, four-append}
use Rattle.mbdc_decode.proofs.Adding.{◌>>◌, unchanged, said}
use Rattle.mbdc_decode.proofs.objects.frame.put_frame.Goals as goal

pub returns-in-Short-clause-tokens : goal.returns-in-Short-clause-tokens
returns-in-Short-clause-tokens g c =
    let s = c.in-Short in
    let e = fields-append (place_fields c.args.line (codes "short")) (link_fields s.control s.address) in
    let n = append-nil (fields_tokens (link_fields s.control s.address)) in
    said (fields_tokens (frame_fields c.args.line (seen c.args.frame)))
    (said (fields_tokens (place_fields c.args.line (codes "short") ++ link_fields s.control s.address)) (c.put_place-in-Short.ensures >> c.put_link.ensures >> unchanged) cc)
    (ap (λ (f : Frame). fields_tokens (frame_fields c.args.line (seen f))) (sym s.is))

pub returns-in-Long-clause-tokens : goal.returns-in-Long-clause-tokens
unfolding fields_tokens ci_fields
returns-in-Long-clause-tokens g c =
    let l = c.in-Long in
    said (fields_tokens (frame_fields c.args.line (seen c.args.frame)))
    (c.put_place-in-Long.ensures >> c.put_link-in-Long.ensures >> (said (fields_tokens (ci_fields l.ci)) (c.put_count.ensures >> c.put_text.ensures >> unchanged) cc)
    >> c.put_content.ensures.tokens >> unchanged)
    (four-append (place_fields c.args.line (codes "long")) (link_fields l.control l.address) (ci_fields l.ci) (content_fields l.ci l.body.now)
    ∙ ap (λ (f : Frame). fields_tokens (frame_fields c.args.line (seen f))) (sym l.is))
