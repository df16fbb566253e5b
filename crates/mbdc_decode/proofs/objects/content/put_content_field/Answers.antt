use Rattle.std.proofs.Common.{◌≡◌, Option, None, Some, option_map, ap, sym, ◌∙◌}
use Rattle.mbdc_decode.specs.Object.{fields_tokens}
use Rattle.mbdc_reading.specs.Content.{Content, content_of, content_view}
use Rattle.mbdc_decode.specs.Content.{content_field}
use Rattle.mbdc_decode.proofs.Adding.{◌>>◌, unchanged, said}
use Rattle.mbdc_decode.proofs.objects.content.put_content_field.Goals as goal

pub returns-in-Some : goal.returns-in-Some
unfolding fields_tokens
returns-in-Some g c =
    let is : content_of c.args.ci c.args.body.now ≡ Some (content_view c.in-Some.content) = sym c.content_of.ensures ∙ ap (option_map content_view) c.in-Some.is in
    said (fields_tokens (content_field (content_of c.args.ci c.args.body.now))) (c.put_name.ensures >> c.put_content.ensures >> unchanged)
    (ap (λ (content : Option Content). fields_tokens (content_field content)) (sym is))

pub returns-in-None : goal.returns-in-None
unfolding fields_tokens
returns-in-None g c =
    let is : content_of c.args.ci c.args.body.now ≡ None = sym c.content_of.ensures ∙ ap (option_map content_view) c.in-None.is in
    said (fields_tokens (content_field (content_of c.args.ci c.args.body.now))) unchanged (ap (λ (content : Option Content). fields_tokens (content_field content)) (sym is))
