use Rattle.std.proofs.Common.{◌≡◌, List, All, map, sym, ap, ◌∙◌, subst, Some, slice_get, IsSome, arith}
use Rattle.std.proofs.lemmas.Result.{on_ok_weaker}
use Rattle.std.specs.BTreeMap.{get}
use Rattle.std.specs.Ordering.{nat_cmp}
use Rattle.std.proofs.lemmas.Option.{same_Some}
use Rattle.std.proofs.lemmas.List.{append-nil}
use Rattle.std.proofs.lemmas.Grind.{common_steps}
use Rattle.mbdc_audit.specs.Walk.{Walks}
use Rattle.mbdc_audit.specs.View.{run_of, span_of, window_of, place_of}
use Rattle.mbdc_audit.proofs.Checks.{at_map}
use Rattle.mbdc_audit.proofs.Ends.{walks_then, walks_same, walks_by, walks_ends}
use Rattle.mbdc_audit.specs.House.{Span, at}
use Rattle.mbdc_audit.specs.Sound.{AreTimed, ends_of, from, to}
use Rattle.mbdc_audit.proofs.Timed.{from_at, to_at}
use Rattle.mbdc_audit.specs.declared.curve.Run as run_type
use Rattle.mbdc_audit.specs.declared.house.Span as span_type
use Rattle.mbdc_audit.proofs.teller.Teller.check_opened.Goals as goal

pub returns : goal.returns
returns g c = λ s found all.
    let lookup = c.in-Some.ensures.lookup in
    let there = subst (λ (xs : List span_type.Span). slice_get (map span_of xs) c.args.window.now.span ≡ Some (span_of c.in-Some.span.now)) c.as_slice-spans.ensures.value
    (at_map span_of c.as_slice-spans.result.now c.args.window.now.span c.in-Some.span.now lookup.3.0 (lookup.3.1 c.in-Some.span.now)) in
    let is : s ≡ span_of c.in-Some.span.now = same_Some s (span_of c.in-Some.span.now) (sym found ∙ there) in
    let p = place_of c.args.place.now in
    let w = window_of c.args.window.now in
    let values = subst (λ (rs : List run_type.Run). Walks c.args.self.now.counts (get nat_cmp c.args.offsets.now) c.check_values.new.self.counts
    (get nat_cmp c.check_values.new.offsets) (ends_of w) (AreTimed (map run_of rs) (span_of c.in-Some.span.now) w)) c.as_slice-runs.ensures.value
    (c.in_ok-check_values.ensures (subst (λ (rs : List run_type.Run). All (λ v. IsSome (slice_get (map run_of rs) v.run)) w.values) (sym c.as_slice-runs.ensures.value) all)) in
    let timed = subst (λ (x : Span). Walks c.args.self.now.counts (get nat_cmp c.args.offsets.now) c.check_values.new.self.counts
    (get nat_cmp c.check_values.new.offsets) (ends_of w) (AreTimed (map run_of c.args.place.now.runs.items) x w)) (sym is) values in
    on_ok_weaker c.check_parts.result (λ parts. walks_ends (append-nil (ends_of w))
    (walks_same (λ r. record { timed = r.0; parts = r.1 }, λ r. (r.timed, r.parts))
    (walks_then timed (walks_by (get nat_cmp c.check_values.new.offsets) parts))))
    (c.check_parts.ensures s (c.reach.ensures.from ∙ (from_at c.args.place.now.runs.items (at (span_of c.in-Some.span.now).from) ∙ ap (λ (x : Span). from p x) (sym is)))
    (c.reach.ensures.to ∙ (to_at c.args.place.now.runs.items (at (span_of c.in-Some.span.now).to) ∙ ap (λ (x : Span). to p x) (sym is))))

pub returns-in_err-check_values : goal.returns-in_err-check_values
returns-in_err-check_values g c = grind (arith, common_steps)

pub as_slice-runs-requires : goal.as_slice-runs-requires
as_slice-runs-requires g c κs = grind (arith, common_steps)

pub get-requires : goal.get-requires
get-requires g c κs = grind (arith, common_steps)

pub check_values-requires : goal.check_values-requires
check_values-requires g c κs = grind (arith, common_steps)

pub reach-requires : goal.reach-requires
reach-requires g c κs = grind (arith, common_steps)

pub check_parts-requires : goal.check_parts-requires
check_parts-requires g c κs = grind (arith, common_steps)
