use Rattle.std.proofs.Common.{◌<◌, ◌≤◌, List, [], ◌∷◌, map, flat_map, length, arith, sym, ap, ◌∙◌}
use Rattle.mbdc_audit.proofs.Checks.{all_full, pairs_full, same}
use Rattle.mbdc_audit.specs.View.{house_of, span_of}
use Rattle.mbdc_audit.proofs.Ends.{walks_all, walks_at, walks_then, walks_same, walks_by, walks_ends}
use Rattle.std.specs.BTreeMap.{get}
use Rattle.std.specs.Ordering.{nat_cmp}
use Rattle.std.proofs.lemmas.List.{append-nil}
use Rattle.mbdc_audit.specs.declared.house.Span as span_type
use Rattle.mbdc_audit.proofs.Checks.{both}
use Rattle.mbdc_audit.proofs.Spans.{AreOther, HasTime, are_spans, spans_at}
use Rattle.mbdc_audit.proofs.Timed.{flat_of}
use Rattle.mbdc_audit.proofs.teller.Teller.check_spans.Goals as goal

pub spans-preserved : goal.spans-preserved
spans-preserved g c =
    let below : c.spans.i < length c.as_slice-spans.result.now = omega arith in
    walks_at (λ s. (span_of s).from ∷ (span_of s).to ∷ []) c.as_slice-spans.result.now c.spans.i _ below
    (spans_at c.as_slice-spans.result.now c.spans.i _ below) c.spans.invariant
    (walks_same (λ r. r.1, λ q. ((tt, tt), q))
    (walks_then (walks_then c.in_ok-check_offset.ensures c.in_ok-check_offset-2.ensures)
    (walks_by (get nat_cmp c.check_offset-in-spans.new.offsets) (same c.in_ok-unless.ensures c.is_span.ensures))))

pub returns : goal.returns
returns g c =
    let past : length c.as_slice-spans.result.now ≤ c.spans.i = omega arith in
    let is = ap (λ (xs : List span_type.Span). map span_of xs) (sym c.as_slice-spans.ensures.value) in
    walks_ends (append-nil _ ∙ (flat_of (λ s. s.from ∷ s.to ∷ []) span_of c.as_slice-spans.result.now
    ∙ ap (λ (xs : List span_type.Span). flat_map (λ s. s.from ∷ s.to ∷ []) (map span_of xs)) c.as_slice-spans.ensures.value))
    (walks_same (are_spans (house_of c.args.house.now) c.as_slice-spans.result.now is)
    (walks_then (walks_all (λ s. (span_of s).from ∷ (span_of s).to ∷ []) c.as_slice-spans.result.now c.spans.i past
    (both (all_full HasTime c.as_slice-spans.result.now c.spans.i past) (pairs_full AreOther c.as_slice-spans.result.now c.spans.i past)) c.spans.invariant)
    (walks_by (get nat_cmp c.spans.offsets) (same c.in_ok-unless-2.ensures c.is_labelled.ensures))))
