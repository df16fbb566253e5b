use Rattle.std.proofs.Common.{ℕ, [], ◌∷◌, codes, ap, sym, ◌∙◌}
use Rattle.mbdc_decode.specs.Object.{fields_tokens}
use Rattle.mbdc_decode.proofs.Adding.{said}
use Rattle.mbdc_poll.specs.Object.{count_field, event_field, fields_of}
use Rattle.mbdc_poll.specs.declared.event.Event.{Event}
use Rattle.mbdc_poll.proofs.events.objects.put_fields.Goals as goal

pub returns-in-Lost : goal.returns-in-Lost
returns-in-Lost g c =
    said (fields_tokens (fields_of c.args.event.now)) c.put_row.ensures
    (ap (λ (n : ℕ). fields_tokens (event_field (codes "lost") ∷ count_field (codes "line") n ∷ [])) c.from.ensures
    ∙ ap (λ (event : Event). fields_tokens (fields_of event)) (sym c.in-Lost.is))

pub returns-in-Late : goal.returns-in-Late
returns-in-Late g c =
    said (fields_tokens (fields_of c.args.event.now)) c.put_row-in-Late.ensures
    (ap (λ (n : ℕ). fields_tokens (event_field (codes "late") ∷ count_field (codes "line") n ∷ count_field (codes "answers") c.in-Late.answers ∷ [])) c.from-in-Late.ensures
    ∙ ap (λ (event : Event). fields_tokens (fields_of event)) (sym c.in-Late.is))

pub returns-in-End : goal.returns-in-End
returns-in-End g c =
    said (fields_tokens (fields_of c.args.event.now)) c.put_row-in-End.ensures
    (ap (λ (event : Event). fields_tokens (fields_of event)) (sym c.in-End.is))
