use Rattle.std.proofs.Common.{◌≡◌, codes, Option, Some, None, option_map, ap, sym, ◌∙◌}
use Rattle.mbdc_decode.specs.Content.{content_field, content_json}
use Rattle.mbdc_reading.specs.Content.{Content, content_view}
use Rattle.mbdc_decode.specs.Object.{fields_tokens}
use Rattle.mbdc_decode.proofs.Adding.{◌>>◌, unchanged, said}
use Rattle.mbdc_poll.specs.Content.{untaken}
use Rattle.mbdc_poll.proofs.Objects.{named}
use Rattle.mbdc_poll.proofs.events.objects.put_untaken.Goals as goal

pub returns-in-Some : goal.returns-in-Some
returns-in-Some g c =
    let is : untaken c.args.answer.now ≡ Some (content_view c.in-Some.content) = sym c.untaken.ensures ∙ ap (option_map content_view) c.in-Some.is in
    said (fields_tokens (content_field (untaken c.args.answer.now))) (c.put_name.ensures >> c.put_content.ensures >> unchanged)
    (named (codes "content") (content_json (content_view c.in-Some.content)) ∙ ap (λ (content : Option Content). fields_tokens (content_field content)) (sym is))

pub returns-in_default : goal.returns-in_default
unfolding fields_tokens
returns-in_default g c =
    let is : untaken c.args.answer.now ≡ None = sym c.untaken.ensures ∙ ap (option_map content_view) c.in_default.is in
    said (fields_tokens (content_field (untaken c.args.answer.now))) unchanged (ap (λ (content : Option Content). fields_tokens (content_field content)) (sym is))
