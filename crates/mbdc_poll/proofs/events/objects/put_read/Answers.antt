use Rattle.std.proofs.Common.{◌++◌, List, ℕ, [], ◌∷◌, codes, ap, length, sym, ◌∙◌}
use Rattle.json.specs.Token as Token
use Rattle.dc_address.specs.Text.{text_of}
use Rattle.mbdc_decode.specs.Object.{Field, fields_tokens}
use Rattle.mbdc_decode.proofs.ObjectTexts.{fields-append}
use Rattle.mbdc_decode.proofs.Adding.{◌>>◌, said}
use Rattle.mbdc_poll.specs.Object.{bodies_field, count_field, event_field, read_fields, text_field}
use Rattle.mbdc_poll.specs.Read.{last_fields}
use Rattle.mbdc_poll.proofs.Objects.{bodies_are}
use Rattle.mbdc_poll.proofs.events.objects.put_read.Goals as goal

abbrev first : List ℕ → ℕ → ℕ → List Field
first meter serial parts = event_field (codes "read") ∷ text_field (codes "meter") meter ∷ count_field (codes "serial") serial ∷ count_field (codes "parts") parts ∷ []

pub returns : goal.returns
unfolding read_fields
returns g c =
    let bodies = c.args.bodies.now in
    let last = last_fields c.args.meter.now.kind bodies c.args.last.now in
    let serial = c.args.serial in
    let named = text_of c.args.meter.now in
    said (fields_tokens (read_fields c.args.meter.now serial bodies c.args.last.now))
    (c.put_row.ensures >> ((c.put_name.ensures >> c.begin_array.ensures >> c.put_bodies.ensures >> c.end_array.ensures) >> c.put_last.ensures))
    (ap (λ (ts : List Token.Token). fields_tokens (first c.text.result serial c.len.result) ++ (ts ++ fields_tokens last)) (bodies_are (λ s. s.now) c.as_slice.result.now bodies c.as_slice.ensures)
    ∙ ap (λ (t : List ℕ). fields_tokens (first t serial c.len.result) ++ (fields_tokens (bodies_field bodies ∷ []) ++ fields_tokens last)) c.text.ensures
    ∙ ap (λ (n : ℕ). fields_tokens (first named serial n) ++ (fields_tokens (bodies_field bodies ∷ []) ++ fields_tokens last)) c.len.ensures.len
    ∙ ap (λ (ts : List Token.Token). fields_tokens (first named serial (length bodies)) ++ ts) (sym (fields-append (bodies_field bodies ∷ []) last))
    ∙ sym (fields-append (first named serial (length bodies)) (bodies_field bodies ∷ last)))
