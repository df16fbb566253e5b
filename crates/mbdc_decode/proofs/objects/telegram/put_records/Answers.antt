use Rattle.std.proofs.Common.{List, ap, map, ◌∙◌}
use Rattle.mbdc_reading.specs.Sent.{Sent, sent_view}
use Rattle.mbdc_decode.specs.Object.{values_tokens}
use Rattle.mbdc_decode.proofs.ObjectTexts.{values_of_map, values_of_none}
use Rattle.mbdc_decode.proofs.Rests.{rest_begun, rest_more, rest_all}
use Rattle.mbdc_decode.specs.Record.{record_json}
use Rattle.mbdc_decode.proofs.objects.telegram.put_records.Goals as goal

pub records-init : goal.records-init
records-init g c = rest_begun (ap (λ (es : List Sent). values_tokens (map record_json es)) c.into_iter-found-iterator.ensures.into_iter_gives)

pub records-preserved : goal.records-preserved
records-preserved g c =
    rest_more c.records.invariant
    (ap (λ (es : List Sent). values_tokens (map record_json es)) c.in-Some.ensures.steps ∙ values_of_map record_json (sent_view c.in-Some.found) c.next.new.self)
    c.put_record_in.ensures

pub returns : goal.returns
returns g c =
    rest_all c.records.invariant (ap (λ (es : List Sent). values_tokens (map record_json es)) c.in-None.ensures.steps.0 ∙ values_of_none record_json)
