use Rattle.std.proofs.Common.{◌≡◌, ◌↔◌, ◌≤◌, ℕ, zero, suc, List, [], ◌∷◌, IsTrue, length, map, arith, subst, sym, Some, slice_get, max, min}
use Rattle.std.proofs.lemmas.Result.{on_ok_weaker}
use Rattle.std.proofs.lemmas.Grind.{common_steps}
use Rattle.mbdc_audit.specs.Walk.{is_clean}
use Rattle.mbdc_audit.proofs.Checks.{link, nothing, same, at_map, pair}
use Rattle.mbdc_audit.specs.View.{house_of, span_of, window_of}
use Rattle.mbdc_audit.specs.House.{at}
use Rattle.mbdc_audit.specs.Amount.{deciding}
use Rattle.mbdc_audit.specs.Sound.{AreAlike}
use Rattle.mbdc_audit.proofs.Curves.{no_end, one_end, two_ends}
use Rattle.mbdc_audit.specs.declared.house.Span as span_type
use Rattle.mbdc_audit.proofs.teller.Teller.check_two.Goals as goal

past : {X Y : Type 0} (f : X → Y) (xs : List X) (i : ℕ) (y : Y) → length xs ≤ i → slice_get (map f xs) i ≡ Some y → ⊥
past f [] i y le e = absurd cc
past f (x ∷ xs) zero y le e = absurd (omega (arith, le))
past f (x ∷ xs) (suc i) y le e = past f xs i y (omega (arith, le)) e

pub returns : goal.returns
returns g c = λ one other.
    let h = house_of c.args.house.now in
    let w = window_of c.args.other.0.now in
    let x = window_of c.args.one.0.now in
    let s = span_of c.in-Some-get.another.now in
    let r = span_of c.in-Some.span.now in
    let lookup = c.in-Some-get.ensures.lookup in
    let look = c.in-Some.ensures.lookup in
    let at_w = subst (λ (ss : List span_type.Span). slice_get (map span_of ss) c.args.other.0.now.span ≡ Some (span_of c.in-Some-get.another.now)) c.as_slice-spans.ensures.value
    (at_map span_of c.as_slice-spans.result.now c.args.other.0.now.span c.in-Some-get.another.now lookup.3.0 (lookup.3.1 c.in-Some-get.another.now)) in
    let at_x = subst (λ (ss : List span_type.Span). slice_get (map span_of ss) c.args.one.0.now.span ≡ Some (span_of c.in-Some.span.now)) c.as_slice-spans.ensures.value
    (at_map span_of c.as_slice-spans.result.now c.args.one.0.now.span c.in-Some.span.now look.3.0 (look.3.1 c.in-Some.span.now)) in
    let from : c.max-from.result ≡ max (at s.from) (at r.from) = omega (arith, c.max-from.ensures, c.moment.ensures, c.moment-2.ensures) in
    let to : c.min-to.result ≡ min (at s.to) (at r.to) = omega (arith, c.min-to.ensures, c.moment-3.ensures, c.moment-4.ensures) in
    let some : max (at s.from) (at r.from) ≤ min (at s.to) (at r.to) = omega (arith, c.if-from-to.false) in
    on_ok_weaker c.check_end-2.result (λ last. same (link
    (subst (λ (t : ℕ). IsTrue (is_clean c.check_end.new.self.counts) ↔ (IsTrue (is_clean c.args.self.now.counts) × AreAlike (deciding t w.values) (deciding t x.values))) from (c.in_ok-check_end.ensures one other))
    (subst (λ (t : ℕ). IsTrue (is_clean c.check_end-2.new.self.counts) ↔ (IsTrue (is_clean c.check_end.new.self.counts) × AreAlike (deciding t w.values) (deciding t x.values))) to last) pair)
    (two_ends h w x s r at_w at_x some)) (c.check_end-2.ensures one other)

pub returns-then-from-to : goal.returns-then-from-to
returns-then-from-to g c = λ one other.
    let h = house_of c.args.house.now in
    let w = window_of c.args.other.0.now in
    let x = window_of c.args.one.0.now in
    let s = span_of c.in-Some-get.another.now in
    let r = span_of c.in-Some.span.now in
    let lookup = c.in-Some-get.ensures.lookup in
    let look = c.in-Some.ensures.lookup in
    let at_w = subst (λ (ss : List span_type.Span). slice_get (map span_of ss) c.args.other.0.now.span ≡ Some (span_of c.in-Some-get.another.now)) c.as_slice-spans.ensures.value
    (at_map span_of c.as_slice-spans.result.now c.args.other.0.now.span c.in-Some-get.another.now lookup.3.0 (lookup.3.1 c.in-Some-get.another.now)) in
    let at_x = subst (λ (ss : List span_type.Span). slice_get (map span_of ss) c.args.one.0.now.span ≡ Some (span_of c.in-Some.span.now)) c.as_slice-spans.ensures.value
    (at_map span_of c.as_slice-spans.result.now c.args.one.0.now.span c.in-Some.span.now look.3.0 (look.3.1 c.in-Some.span.now)) in
    let from : c.max-from.result ≡ max (at s.from) (at r.from) = omega (arith, c.max-from.ensures, c.moment.ensures, c.moment-2.ensures) in
    let to : c.min-to.result ≡ min (at s.to) (at r.to) = omega (arith, c.min-to.ensures, c.moment-3.ensures, c.moment-4.ensures) in
    nothing (no_end h w x s r at_w at_x (omega (arith, c.if-from-to.true)))

pub returns-then-from-to-2 : goal.returns-then-from-to-2
returns-then-from-to-2 g c = λ one other.
    let h = house_of c.args.house.now in
    let w = window_of c.args.other.0.now in
    let x = window_of c.args.one.0.now in
    let s = span_of c.in-Some-get.another.now in
    let r = span_of c.in-Some.span.now in
    let lookup = c.in-Some-get.ensures.lookup in
    let look = c.in-Some.ensures.lookup in
    let at_w = subst (λ (ss : List span_type.Span). slice_get (map span_of ss) c.args.other.0.now.span ≡ Some (span_of c.in-Some-get.another.now)) c.as_slice-spans.ensures.value
    (at_map span_of c.as_slice-spans.result.now c.args.other.0.now.span c.in-Some-get.another.now lookup.3.0 (lookup.3.1 c.in-Some-get.another.now)) in
    let at_x = subst (λ (ss : List span_type.Span). slice_get (map span_of ss) c.args.one.0.now.span ≡ Some (span_of c.in-Some.span.now)) c.as_slice-spans.ensures.value
    (at_map span_of c.as_slice-spans.result.now c.args.one.0.now.span c.in-Some.span.now look.3.0 (look.3.1 c.in-Some.span.now)) in
    let from : c.max-from.result ≡ max (at s.from) (at r.from) = omega (arith, c.max-from.ensures, c.moment.ensures, c.moment-2.ensures) in
    let to : c.min-to.result ≡ min (at s.to) (at r.to) = omega (arith, c.min-to.ensures, c.moment-3.ensures, c.moment-4.ensures) in
    same (subst (λ (t : ℕ). IsTrue (is_clean c.check_end.new.self.counts) ↔ (IsTrue (is_clean c.args.self.now.counts) × AreAlike (deciding t w.values) (deciding t x.values))) from (c.in_ok-check_end.ensures one other))
    (one_end h w x s r at_w at_x (omega (arith, c.if-from-to-2.true)))

pub returns-in_err-check_end : goal.returns-in_err-check_end
returns-in_err-check_end g c = grind (arith, common_steps)

pub returns-in_default : goal.returns-in_default
returns-in_default g c = λ one other. nothing (λ s r at_w at_x t common.
    absurd (past span_of c.as_slice-spans.result.now c.args.one.0.now.span r c.in_default.ensures.lookup.3
    (subst (λ (ss : List span_type.Span). slice_get (map span_of ss) c.args.one.0.now.span ≡ Some r) (sym c.as_slice-spans.ensures.value) at_x)))

pub returns-in_default-get : goal.returns-in_default-get
returns-in_default-get g c = λ one other. nothing (λ s r at_w at_x t common.
    absurd (past span_of c.as_slice-spans.result.now c.args.other.0.now.span s c.in_default-get.ensures.lookup.3
    (subst (λ (ss : List span_type.Span). slice_get (map span_of ss) c.args.other.0.now.span ≡ Some s) (sym c.as_slice-spans.ensures.value) at_w)))
