use Rattle.std.proofs.Common.{ℕ, Option, [], ◌∷◌, codes, ap, sym, ◌∙◌, option_map}
use Rattle.json.specs.Json.{null}
use Rattle.mbdc_decode.specs.Object.{count, fields_tokens, object_of}
use Rattle.mbdc_reading.specs.Fixed.{Fixed, fixed_view}
use Rattle.mbdc_decode.specs.Content.{state_fields, state_of}
use Rattle.mbdc_decode.specs.Meter.{status_fields}
use Rattle.mbdc_decode.proofs.Adding.{said}
use Rattle.mbdc_decode.proofs.objects.content.put_state.Goals as goal

pub returns-in-Some : goal.returns-in-Some
unfolding state_fields
returns-in-Some g c =
    said (fields_tokens (state_of (option_map fixed_view c.args.found.now))) c.put_row.ensures
    (ap (λ (n : ℕ). fields_tokens ((codes "access", count n) ∷ (codes "status", object_of (status_fields c.in-Some.found.status)) ∷ (codes "security", null) ∷ [])) c.from.ensures
    ∙ ap (λ (f : Option Fixed). fields_tokens (state_of f)) (ap (option_map fixed_view) (sym c.in-Some.is)))

pub returns-in-None : goal.returns-in-None
unfolding state_fields
returns-in-None g c =
    said (fields_tokens (state_of (option_map fixed_view c.args.found.now))) c.put_row-in-None.ensures
    (ap (λ (f : Option Fixed). fields_tokens (state_of f)) (ap (option_map fixed_view) (sym c.in-None.is)))
