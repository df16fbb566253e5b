use Rattle.std.proofs.Common.{List, [], ◌∷◌, ◌∙◌, ap, append_assoc, append-nil, codes, map}
use Rattle.mbdc_reading.specs.Sent.{Sent, sent_view}
use Rattle.mbdc_decode.specs.Object.{fields_tokens, values_tokens}
use Rattle.mbdc_decode.proofs.ObjectTexts.{items_are, values_of_map, values_of_none}
use Rattle.mbdc_decode.proofs.Adding.{◌>>◌, unchanged, said}
use Rattle.mbdc_decode.proofs.Rests.{rest_begun, rest_more, rest_all}
use Rattle.mbdc_decode.specs.Record.{record_json}
use Rattle.mbdc_shown.specs.Reported.{records_field}
use Rattle.mbdc_shown.proofs.reported.put_headline.Goals as goal

pub records-init : goal.records-init
records-init g c = record {
  can = tt;
  ends = tt;
  tokens = rest_begun (ap (λ (ss : List Sent). values_tokens (map record_json ss)) c.into_iter-sent-iterator.ensures.into_iter_gives);
}

pub records-preserved : goal.records-preserved
records-preserved g c = record {
  can = tt;
  ends = tt;
  tokens =
      rest_more c.records.invariant.tokens
      (ap (λ (ss : List Sent). values_tokens (map record_json ss)) c.in-Some.ensures.steps ∙ values_of_map record_json (sent_view c.in-Some.sent) c.next.new.self)
      c.put_record.ensures;
}

pub returns : goal.returns
unfolding fields_tokens records_field
returns g c =
    said (fields_tokens (records_field (codes "headline") c.args.headline ∷ []))
    (c.put_name.ensures >> c.begin_array.ensures
    >> rest_all c.records.invariant.tokens (ap (λ (ss : List Sent). values_tokens (map record_json ss)) c.in-None.ensures.steps.0 ∙ values_of_none record_json)
    >> c.end_array.ensures >> unchanged)
    (simp (items_are, append_assoc, append-nil))
