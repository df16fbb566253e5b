use Rattle.std.proofs.Common.{ℕ, Option, Result, ap, sym, ◌∙◌}
use Rattle.mbdc_change.specs.State.{PartRow}
use Rattle.mbdc_shown.specs.Reported.{reported_fields}
use Rattle.mbdc_shown.specs.Stand.{bodies_sent}
use Rattle.dc_records.specs.Telegram.{Parsed}
use Rattle.dc_records.specs.declared.fault.BodyFault.{BodyFault}
use Rattle.dc_records.specs.declared.header.Header.{Header}
use Rattle.mbdc_decode.specs.Object.{fields_tokens}
use Rattle.mbdc_decode.proofs.Adding.{unchanged, said}
use Rattle.mbdc_poll.specs.Read.{last_fields, reported_by}
use Rattle.mbdc_poll.proofs.events.objects.put_last.Goals as goal

pub returns-in-Some : goal.returns-in-Some
returns-in-Some g c =
    let kind = c.args.kind in
    let bodies = c.args.bodies.now in
    said (fields_tokens (last_fields kind bodies c.args.last.now)) c.put_reported.ensures
    (ap (λ (m : ℕ). fields_tokens (reported_fields m c.header.result.status kind (bodies_sent bodies))) c.moment.ensures.moment
    ∙ ap (λ (h : Header). fields_tokens (reported_fields c.in-Some.part.moment h.status kind (bodies_sent bodies))) c.header.ensures.value
    ∙ ap (λ (r : Result Parsed BodyFault). fields_tokens (reported_by c.in-Some.part.moment kind bodies r)) (sym c.telegram.ensures)
    ∙ ap (λ (last : Option PartRow). fields_tokens (last_fields kind bodies last)) (sym c.in-Some.is))

pub returns-in_default : goal.returns-in_default
unfolding fields_tokens
returns-in_default g c =
    said (fields_tokens (last_fields c.args.kind c.args.bodies.now c.args.last.now)) unchanged
    (ap (λ (last : Option PartRow). fields_tokens (last_fields c.args.kind c.args.bodies.now last)) (sym c.in_default.is))
