use Rattle.std.proofs.Common.{◌≡◌, Bool, true, ap, sym, ◌∙◌}
use Rattle.std.specs.Prelude.{if◌then◌else◌}
use Rattle.json.specs.Json.{null}
use Rattle.json.specs.Tree.{json_tokens}
use Rattle.mbdc_decode.specs.Object.{object_of}
use Rattle.mbdc_reading.specs.Fixed.{Fixed, fixed_view, has_number}
use Rattle.mbdc_decode.specs.Content.{number_fields, number_json}
use Rattle.mbdc_decode.proofs.Adding.{◌>>◌, unchanged, said}
use Rattle.mbdc_decode.proofs.objects.content.put_number.Goals as goal

pub returns-then-has_number : goal.returns-then-has_number
unfolding number_fields
returns-then-has_number g c =
    let f : Fixed = fixed_view c.args.found.now in
    let is : has_number f ≡ true = sym c.has_number.ensures ∙ c.if-has_number.true in
    said (json_tokens (number_json f))
    (said (json_tokens (object_of (number_fields f)))
    (c.begin_object.ensures >> c.put_name.ensures >> c.put_null.ensures >> c.put_name-then-has_number.ensures >> c.put_string.ensures
    >> c.put_name-then-has_number-2.ensures >> c.put_null-then-has_number.ensures >> c.put_name-then-has_number-3.ensures >> c.put_null-then-has_number-2.ensures
    >> c.put_text.ensures >> c.put_count.ensures >> c.end_object.ensures >> unchanged) cc)
    (ap (λ (has : Bool). json_tokens (if has then object_of (number_fields f) else null)) (sym is))
