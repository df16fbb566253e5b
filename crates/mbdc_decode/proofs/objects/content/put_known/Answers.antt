use Rattle.std.proofs.Common.{List, Option, ◌∷◌, append_assoc, append-nil, ap, sym, option_map}
use Rattle.dc_records.specs.Body.{plain}
use Rattle.mbdc_decode.specs.Object.{Field, fields_tokens}
use Rattle.mbdc_decode.proofs.ObjectTexts.{fields-around, fields-cons}
use Rattle.mbdc_reading.specs.Content.{Content, Variable, content_view, fixed, variable, variable_view, sents_of, end_of}
use Rattle.mbdc_reading.specs.Fixed.{Fixed, fixed_view}
use Rattle.mbdc_decode.specs.Content.{counters_field, counters_in, ending_of, fixed_head, fixed_name, head_fields, known_fields, security_field}
use Rattle.mbdc_decode.specs.JsonTelegram.{records_field, end_fields}
use Rattle.mbdc_decode.proofs.Adding.{◌>>◌, unchanged, said}
use Rattle.mbdc_decode.proofs.objects.content.put_known.Goals as goal

pub returns-in-Variable : goal.returns-in-Variable
unfolding known_fields
returns-in-Variable g c =
    let v : Variable = variable_view c.in-Variable.variable in
    let last : List Field = end_fields (ending_of (end_of v)) in
    let e = fields-around (head_fields v) (security_field v.head) (records_field (sents_of v) ∷ last) in
    let d = fields-cons (records_field (sents_of v)) last in
    let n = append-nil (fields_tokens last) in
    let r = c.records.ensures in
    let o = c.end_of.ensures in
    said (fields_tokens (known_fields (content_view c.args.content.now)))
    (said (fields_tokens (known_fields (variable v))) (c.put_head.ensures >> c.put_security.ensures >> c.put_records_field.ensures >> c.put_end.ensures >> unchanged) cc)
    (ap (λ (k : Content). fields_tokens (known_fields k)) (ap content_view (sym c.in-Variable.is)))

pub returns-in-Fixed : goal.returns-in-Fixed
unfolding fields_tokens known_fields fixed_head fixed_name
returns-in-Fixed g c =
    let f : Option Fixed = option_map fixed_view c.in-Fixed.found in
    let e = fields-around (fixed_head f) (counters_field (counters_in f)) (end_fields plain) in
    said (fields_tokens (known_fields (content_view c.args.content.now)))
    (said (fields_tokens (known_fields (fixed f)))
    (c.put_text.ensures >> c.put_whose.ensures >> c.put_state.ensures >> c.put_counters_field.ensures >> c.put_end-in-Fixed.ensures >> unchanged) (simp (e, append_assoc, append-nil)))
    (ap (λ (k : Content). fields_tokens (known_fields k)) (ap content_view (sym c.in-Fixed.is)))
