-- The values that decide a moment, of a window and of its curve.
use Rattle.std.proofs.Common.{arith, ◌≡◌, ◌↔◌, ◌<◌, ◌≤◌, ◌⊎◌, inl, inr, ℕ, List, [], ◌∷◌, Bool, true, cond, max, min, map, filter, refl, sym, ◌∙◌, ap, subst}
use Rattle.mbdc_audit.specs.declared.house.Value as value_type
use Rattle.std.proofs.Common.{Some, slice_get}
use Rattle.std.proofs.lemmas.Option.{same_Some}
use Rattle.mbdc_audit.specs.House.{House, Span, Value, Window, at}
use Rattle.mbdc_audit.specs.Sound.{AreAlike, AreOneCurve, IsCommon}
use Rattle.mbdc_audit.proofs.Deciding.{deciding_counted}
use Rattle.mbdc_audit.proofs.Moments.{begin_is, begin_or_end, end_is, within}
use Rattle.mbdc_audit.specs.Amount.{counting, deciding}
use Rattle.mbdc_audit.specs.View.{seen_value}
use Rattle.mbdc_audit.specs.Walk.{AreFound, is_found}
use Rattle.mbdc_audit.proofs.Checks.{all_cons}

pub all_found : (values : List value_type.Value) → AreFound values → filter (λ v. is_found v.found) values ≡ values
all_found [] all = refl
all_found (v ∷ values) all =
    let a = (all_cons (λ (v : value_type.Value). is_found v.found ≡ true) v values).0 all in
    ap (λ (b : Bool). cond b (v ∷ filter (λ v. is_found v.found) values) (filter (λ v. is_found v.found) values)) a.0
    ∙ ap (λ (vs : List value_type.Value). v ∷ vs) (all_found values a.1)

pub curve_is : (kept values : List value_type.Value) → AreFound values
    → map seen_value kept ≡ counting (map seen_value (filter (λ v. is_found v.found) values))
    → map seen_value kept ≡ counting (map seen_value values)
curve_is kept values all raw =
    raw ∙ ap (λ (vs : List value_type.Value). counting (map seen_value vs)) (all_found values all)

pub decides : (moment : ℕ) (kept values : List Value) → kept ≡ counting values → deciding moment kept ≡ deciding moment values
decides moment kept values is = ap (λ (vs : List Value). deciding moment vs) is ∙ deciding_counted moment values

module _ (h : House) (w x : Window) (s r : Span) (at_w : slice_get h.spans w.span ≡ Some s) (at_x : slice_get h.spans x.span ≡ Some r) where
  abbrev AreAt : ℕ → Type 0
  AreAt t = AreAlike (deciding t w.values) (deciding t x.values)

  of_curve : AreOneCurve h w x → (t : ℕ) → IsCommon s r t → AreAt t
  of_curve one t common = one s r at_w at_x t common

  to_curve : ((t : ℕ) → IsCommon s r t → AreAt t) → AreOneCurve h w x
  to_curve all s' r' at_w' at_x' t common =
      let first : s' ≡ s = same_Some s' s (sym at_w' ∙ at_w) in
      let second : r' ≡ r = same_Some r' r (sym at_x' ∙ at_x) in
      all t (subst (λ (y : Span). IsCommon y r t) first (subst (λ (y : Span). IsCommon s' y t) second common))

  pub no_end : min (at s.to) (at r.to) < max (at s.from) (at r.from) → AreOneCurve h w x
  no_end none = to_curve (λ t common. absurd (omega (arith, within (at s.from) (at s.to) (at r.from) (at r.to) t common)))

  pub two_ends : max (at s.from) (at r.from) ≤ min (at s.to) (at r.to)
      → (AreAt (max (at s.from) (at r.from)) × AreAt (min (at s.to) (at r.to))) ↔ AreOneCurve h w x
  two_ends some = (
    λ both. to_curve (λ t common. by_end both t (begin_or_end (at s.from) (at s.to) (at r.from) (at r.to) t common)),
    λ one. (
      of_curve one _ (begin_is (at s.from) (at s.to) (at r.from) (at r.to) some),
      of_curve one _ (end_is (at s.from) (at s.to) (at r.from) (at r.to) some),
    ),
  )
    where
      by_end : AreAt (max (at s.from) (at r.from)) × AreAt (min (at s.to) (at r.to)) → (t : ℕ)
          → (t ≡ max (at s.from) (at r.from)) ⊎ (t ≡ min (at s.to) (at r.to)) → AreAt t
      by_end both t (inl is) = subst (λ (n : ℕ). AreAt n) (sym is) both.0
      by_end both t (inr is) = subst (λ (n : ℕ). AreAt n) (sym is) both.1

  pub one_end : max (at s.from) (at r.from) ≡ min (at s.to) (at r.to) → AreAt (max (at s.from) (at r.from)) ↔ AreOneCurve h w x
  one_end is =
      let both = two_ends (omega (arith, is)) in
      (λ one. both.0 (one, subst (λ (n : ℕ). AreAt n) is one), λ curve. (both.1 curve).0)

pub alike_same : {a b c d : List Value} → a ≡ b → c ≡ d → AreAlike a c ↔ AreAlike b d
alike_same {a} {b} {c} {d} e f = (
  λ h. subst (λ (x : List Value). AreAlike b x) f (subst (λ (x : List Value). AreAlike x c) e h),
  λ h. subst (λ (x : List Value). AreAlike x c) (sym e) (subst (λ (x : List Value). AreAlike b x) (sym f) h),
)
