use Rattle.std.proofs.Common.{◌⊎◌, ◌<◌, ◌≤◌, List, All, take, map, flat_map, length, arith, sym, ap, ◌∙◌, subst}
use Rattle.mbdc_audit.proofs.Checks.{all_map, link, same}
use Rattle.mbdc_audit.specs.View.{run_of, seen_value, span_of, source_of, window_of}
use Rattle.std.proofs.Common.{slice_get, IsSome}
use Rattle.mbdc_audit.proofs.Checks.{pair}
use Rattle.mbdc_audit.proofs.Ends.{walks_all, walks_at, walks_then, walks_by, walks_ends, walks_to}
use Rattle.std.specs.BTreeMap.{get}
use Rattle.std.specs.Ordering.{nat_cmp}
use Rattle.mbdc_audit.specs.declared.house.Value as value_type
use Rattle.mbdc_audit.specs.Sound.{AreNear, IsTimed, ends_in}
use Rattle.std.proofs.lemmas.List.{append-nil, take_all}
use Rattle.mbdc_audit.proofs.Timed.{are_timed, flat_of, values_at}
use Rattle.mbdc_audit.proofs.teller.Teller.check_values.Goals as goal

pub values-preserved : goal.values-preserved
values-preserved g c = λ all.
    let below : c.values.i < length c.as_slice-values.result.now = omega arith in
    let some = (all_map (λ v. IsSome (slice_get (map run_of c.args.runs.now) v.run)) seen_value c.as_slice-values.result.now).0 all in
    walks_at (λ v. ends_in (source_of v)) c.as_slice-values.result.now c.values.i _ below
    (values_at (λ v. IsTimed (map run_of c.args.runs.now) (seen_value v)) (λ e. AreNear e (span_of c.args.span.now).from ⊎ AreNear e (span_of c.args.span.now).to) (λ v. ends_in (source_of v)) c.as_slice-values.result.now c.values.i _ below)
    (c.values.invariant all)
    (walks_ends (append-nil _) (walks_then (walks_to (λ e. AreNear e (span_of c.args.span.now).from ⊎ AreNear e (span_of c.args.span.now).to) c.day_of.ensures c.in_ok-check_day.ensures)
    (walks_by (get nat_cmp c.check_day.new.offsets) (link (c.in_ok-check_value.ensures (some c.values.i _ below))
    (same c.in_ok-unless.ensures c.is_next.ensures) pair))))

pub returns : goal.returns
returns g c = λ all.
    let past : length c.as_slice-values.result.now ≤ c.values.i = omega arith in
    let value = c.as_slice-values.ensures.value in
    let run = c.values.invariant (subst (λ (vs : List value_type.Value). All (λ v. IsSome (slice_get (map run_of c.args.runs.now) v.run)) (map seen_value vs)) (sym value) all) in
    walks_ends (flat_of (λ v. ends_in v.source) seen_value c.as_slice-values.result.now ∙ ap (λ (vs : List value_type.Value). flat_map (λ v. ends_in v.source) (map seen_value vs)) value)
    (walks_all (λ v. ends_in (source_of v)) c.as_slice-values.result.now c.values.i past
    (are_timed (map run_of c.args.runs.now) (span_of c.args.span.now) (window_of c.args.window.now) (take c.values.i c.as_slice-values.result.now)
    (ap (λ (vs : List value_type.Value). map seen_value vs) (sym (take_all c.values.i c.as_slice-values.result.now past ∙ value)))) run)
