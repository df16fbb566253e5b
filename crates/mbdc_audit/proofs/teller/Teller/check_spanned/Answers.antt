use Rattle.std.proofs.Common.{◌≡◌, ◌↔◌, ◌<◌, ◌≤◌, ℕ, List, map, length, arith, subst, Some}
use Rattle.mbdc_audit.proofs.Checks.{link, nothing, same, through}
use Rattle.mbdc_audit.specs.View.{span_of, place_of}
use Rattle.std.proofs.Common.{slice_get}
use Rattle.mbdc_audit.proofs.Checks.{at_map}
use Rattle.std.proofs.lemmas.List.{get_or_default, length-map}
use Rattle.mbdc_audit.specs.declared.house.Span as span_type
use Rattle.mbdc_audit.specs.House.{Place, Span}
use Rattle.mbdc_audit.specs.Sound.{IsSpannedBy}
use Rattle.mbdc_audit.proofs.Windowed.{spanned_all, spanned_more}
use Rattle.mbdc_audit.proofs.teller.Teller.check_spanned.Goals as goal

abbrev All_ : Place → List Span → Type 0
All_ p spans = (n : ℕ) (s : Span) → slice_get spans n ≡ Some s → IsSpannedBy p n s

pub spans-init : goal.spans-init
spans-init g c = nothing (λ n s lt. absurd (omega arith))

pub spans-preserved : goal.spans-preserved
spans-preserved g c =
    let below : c.spans.i-counter < length c.as_slice-spans.result.now = omega arith in
    link c.spans.invariant (same c.in_ok-unless.ensures c.is_spanned.ensures)
    (spanned_more (place_of c.args.place.now) (map span_of c.as_slice-spans.result.now) c.spans.i-counter _
    (at_map span_of c.as_slice-spans.result.now c.spans.i-counter _ below (get_or_default c.as_slice-spans.result.now c.spans.i-counter _ _ below)))

pub returns : goal.returns
returns g c =
    let past : length (map span_of c.as_slice-spans.result.now) ≤ c.spans.i-counter = omega (arith, length-map c.as_slice-spans.result.now span_of) in
    same c.spans.invariant (through (spanned_all (place_of c.args.place.now) (map span_of c.as_slice-spans.result.now) c.spans.i-counter past)
    (subst (λ (xs : List span_type.Span). All_ (place_of c.args.place.now) (map span_of c.as_slice-spans.result.now)
    ↔ All_ (place_of c.args.place.now) (map span_of xs)) c.as_slice-spans.ensures.value (λ r. r, λ r. r)))
