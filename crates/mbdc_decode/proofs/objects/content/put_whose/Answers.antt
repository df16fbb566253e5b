use Rattle.std.proofs.Common.{Option, [], ◌∷◌, ap, sym, option_map}
use Rattle.mbdc_decode.specs.Object.{fields_tokens}
use Rattle.mbdc_reading.specs.Fixed.{Fixed, fixed_view}
use Rattle.mbdc_decode.specs.Content.{whose_field}
use Rattle.mbdc_decode.proofs.Adding.{◌>>◌, unchanged, said}
use Rattle.mbdc_decode.proofs.objects.content.put_whose.Goals as goal

pub returns-in-Some : goal.returns-in-Some
unfolding fields_tokens whose_field
returns-in-Some g c =
    said (fields_tokens (whose_field (option_map fixed_view c.args.found.now) ∷ [])) (c.put_name.ensures >> c.put_number.ensures >> unchanged)
    (ap (λ (f : Option Fixed). fields_tokens (whose_field f ∷ [])) (ap (option_map fixed_view) (sym c.in-Some.is)))

pub returns-in-None : goal.returns-in-None
unfolding fields_tokens whose_field
returns-in-None g c =
    said (fields_tokens (whose_field (option_map fixed_view c.args.found.now) ∷ [])) (c.put_name.ensures >> c.put_null.ensures >> unchanged)
    (ap (λ (f : Option Fixed). fields_tokens (whose_field f ∷ [])) (ap (option_map fixed_view) (sym c.in-None.is)))
