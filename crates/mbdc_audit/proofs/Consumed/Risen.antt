-- The curve of a place rises.
use Rattle.std.proofs.Common.{◌≡◌, ℕ, ◌+◌, ◌-◌, ◌*◌, ◌/◌, ◌<◌, ◌≤◌, ⊎_elim, ltb, List, [], ◌∷◌, Option, None, Some, refl, sym, ap, ◌∙◌, subst, arith}
use Rattle.std.proofs.Math.Nat.{mul-le-mul_left, mul_comm, div-le_of_le-mul, le-div_iff_mul-le, div-mul-le_self, mul-zero, zero-div, le_trans}
use Rattle.std.proofs.lemmas.Bool.{cases_lt, cond-true, cond-false, lt-ltb, le-ltb}
use Rattle.mbdc_audit.specs.declared.consumption.entry.Entry.{Entry}
use Rattle.mbdc_audit.specs.Consumption.Step.{step}
use Rattle.mbdc_audit.specs.Consumption.Order.{IsInOrder}
use Rattle.mbdc_audit.specs.Consumption.Curve.{share, curve}
use Rattle.mbdc_audit.proofs.Consumed.Grown.{Ascends, end_of, grown, ascends, curve-nil, curve-before, curve-within, curve-after}
use Rattle.mbdc_audit.specs.Consumption.Period.{Rises}
use Rattle.mbdc_audit.proofs.Consumed.Rising.{Fills, IsRising}

pub share-le-step : (a b : Entry) (t : ℕ) → t ≤ b.moment → share a b t ≤ step a b
share-le-step a b t le =
    let part : t - a.moment ≤ b.moment - a.moment = omega arith in
    let product : step a b * (t - a.moment) ≤ (b.moment - a.moment) * step a b =
    subst (λ (n : ℕ). step a b * (t - a.moment) ≤ n) (mul_comm (step a b) (b.moment - a.moment)) (mul-le-mul_left (step a b) part) in
    div-le_of_le-mul (b.moment - a.moment) product

quotients : (k m n : ℕ) → 0 < k → m ≤ n → m / k ≤ n / k
quotients k m n pos le = (le-div_iff_mul-le pos).1 (le_trans (div-mul-le_self m k) le)

pub share-le-share : (a b : Entry) (t u : ℕ) → a.moment < b.moment → t ≤ u → share a b t ≤ share a b u
share-le-share a b t u apart le =
    let pos : 0 < b.moment - a.moment = omega arith in
    let part : t - a.moment ≤ u - a.moment = omega arith in
    quotients (b.moment - a.moment) (step a b * (t - a.moment)) (step a b * (u - a.moment)) pos (mul-le-mul_left (step a b) part)

pub share-zero : (a b : Entry) (t : ℕ) → t ≡ a.moment → share a b t ≡ 0
share-zero a b t here =
    let none : t - a.moment ≡ 0 = omega arith in
    ap (λ (n : ℕ). step a b * n / (b.moment - a.moment)) none
    ∙ ap (λ (n : ℕ). n / (b.moment - a.moment)) (mul-zero (step a b))
    ∙ zero-div (b.moment - a.moment)

-- ---- what has grown before the next entry, and from it on

pub grown-before : (a b : Entry) (rest : List Entry) (t : ℕ) → t < b.moment → grown a (b ∷ rest) t ≡ share a b t
grown-before a b rest t before = cond-true (ltb t b.moment) (share a b t) (step a b + grown b rest t) (lt-ltb t b.moment before)

pub grown-past : (a b : Entry) (rest : List Entry) (t : ℕ) → b.moment ≤ t → grown a (b ∷ rest) t ≡ step a b + grown b rest t
grown-past a b rest t le = cond-false (ltb t b.moment) (share a b t) (step a b + grown b rest t) (le-ltb t b.moment le)

pub grown_rises : (a : Entry) (rest : List Entry) (t u : ℕ) → Ascends a rest → a.moment ≤ t → t ≤ u → grown a rest t ≤ grown a rest u
grown_rises a [] t u up from le = omega arith
grown_rises a (b ∷ rest) t u up from le = ⊎_elim
    (λ (before : t < b.moment). ⊎_elim
    (λ (before' : u < b.moment).
    let shares = share-le-share a b t u (omega arith) le in
    let now = grown-before a b rest t before in
    let then = grown-before a b rest u before' in
    omega (arith, shares, now, then))
    (λ (past : b.moment ≤ u).
    let part = share-le-step a b t (omega arith) in
    let now = grown-before a b rest t before in
    let then = grown-past a b rest u past in
    omega (arith, part, now, then))
    (cases_lt u b.moment))
    (λ (past : b.moment ≤ t).
    let more = grown_rises b rest t u up.1 past le in
    let now = grown-past a b rest t past in
    let then = grown-past a b rest u (omega arith) in
    omega (arith, more, now, then))
    (cases_lt t b.moment)

-- ---- where the curve is known

-- the curve is known there, and is what has grown
pub record Knows (a : Entry) (rest : List Entry) (t x : ℕ) : Type 0 where
  pub from : a.moment ≤ t
  pub within : t ≤ (end_of a rest).moment
  pub is : x ≡ grown a rest t

pub known : (a : Entry) (rest : List Entry) (t x : ℕ) → Ascends a rest → curve (a ∷ rest) t ≡ Some x → Knows a rest t x
known a rest t x up e = ⊎_elim
    (λ (before : t < a.moment). let none = curve-before a rest t up before in absurd (cc))
    (λ (from : a.moment ≤ t). ⊎_elim
    (λ (after : (end_of a rest).moment < t). let none = curve-after a rest t up after in absurd (cc))
    (λ (within : t ≤ (end_of a rest).moment).
    let some = curve-within a rest t up from within in
    record { from = from; within = within; is = cc })
    (cases_lt (end_of a rest).moment t))
    (cases_lt t a.moment)

rises_if : (x y : Option ℕ) → ((m n : ℕ) → x ≡ Some m → y ≡ Some n → m ≤ n) → Rises x y
rises_if None y h = tt
rises_if (Some x) None h = tt
rises_if (Some x) (Some y) h = h x y refl refl

fills_if : (x y z : Option ℕ) → ((m n : ℕ) → x ≡ Some m → z ≡ Some n → y ≡ None → ⊥) → Fills x y z
fills_if None y z h = tt
fills_if (Some x) (Some y) z h = tt
fills_if (Some x) None None h = tt
fills_if (Some x) None (Some z) h = h x z refl refl refl

pub rising_curve : (entries : List Entry) → IsInOrder entries → IsRising (curve entries)
rising_curve [] order = record {
  rises = λ a b le. rises_if (curve [] a) (curve [] b) (λ m n e e'. let none = curve-nil a in absurd (cc));
  fills = λ a b c le le'. fills_if (curve [] a) (curve [] b) (curve [] c) (λ m n e e' none'. let none = curve-nil a in absurd (cc));
}
rising_curve (first ∷ rest) order =
    let up = ascends first rest order in
    record {
      rises = λ a b le. rises_if (curve (first ∷ rest) a) (curve (first ∷ rest) b) (λ m n e e'.
          let k = known first rest a m up e in
          let k' = known first rest b n up e' in
          let more = grown_rises first rest a b up k.from le in
          omega (arith, k.is, k'.is, more));
      fills = λ a b c le le'. fills_if (curve (first ∷ rest) a) (curve (first ∷ rest) b) (curve (first ∷ rest) c) (λ m n e e' none.
          let k = known first rest a m up e in
          let k' = known first rest c n up e' in
          let from = k.from in
          let within = k'.within in
          let some = curve-within first rest b up (omega arith) (omega arith) in
          cc);
    }

pub rises_along : (entries : List Entry) → IsInOrder entries → (a b : ℕ) → a ≤ b → (x y : Option ℕ) → x ≡ curve entries a → y ≡ curve entries b → Rises x y
rises_along entries order a b le x y is is' =
    subst (λ (v : Option ℕ). Rises v y) (sym is) (subst (λ (w : Option ℕ). Rises (curve entries a) w) (sym is') ((rising_curve entries order).rises a b le))
