-- Which whole numbers of the smallest unit a decimal is.
use Rattle.std.proofs.Common.{arith, ◌≡◌, ◌<◌, ◌≤◌, ◌+◌, ◌*◌, ◌/◌, ◌%◌, ◌^◌, ℕ, zero, suc, Bool, true, false, ℤ, pos, negsuc, refl, sym, ap, ◌∙◌, Option, None, Some, lit<, if◌then◌else◌}
use Rattle.std.specs.Prelude.{◌==◌, nat_lt}
use Rattle.std.proofs.Math.Nat.{mul-div_cancel, mul-mod_left, div-add-mod', pow-le-pow_right, mul-le-mul_left, mul-le-mul_right}
use Rattle.std.proofs.lemmas.Bool.Decides.{nat_tests}
use Rattle.dc_units.specs.declared.decimal.Decimal.{Decimal}
use Rattle.dc_units.specs.declared.point.Point.{Point}
use Rattle.dc_units.specs.declared.point.Seen.{Seen}
use Rattle.dc_units.specs.declared.point.Seen.TheVariants.{Point as Known}
use Rattle.dc_units.specs.declared.value.Value.TheVariants as value
use Rattle.mbdc_audit.specs.Evidence.{IsAmount, IsScaled}
use Rattle.mbdc_audit.specs.Uses.{size_of}
use Rattle.mbdc_audit.specs.declared.uses.Counted.{Counted}
use Rattle.mbdc_audit.specs.Smallest.{by_power, end_of_values, fitting, of_decimal, of_magnitude, of_mantissa, scaled_down}
use Rattle.mbdc_audit.proofs.Powers.{power_some}

-- ---- tests

unless : (b : Bool) (o : Option ℕ) (n : ℕ) → (if b then None else o) ≡ Some n → o ≡ Some n
unless true o n e = absurd cc
unless false o n e = e

pub where_true : (b : Bool) (o : Option ℕ) (n : ℕ) → (if b then o else None) ≡ Some n → (b ≡ true) × (o ≡ Some n)
where_true true o n e = (refl, e)
where_true false o n e = absurd cc

pub fits : (x n : ℕ) → fitting x ≡ Some n → (x ≡ n) × (n < 10 ^ 18)
fits x n e =
    let h = where_true (nat_lt x end_of_values) (Some x) n e in
    let h1 = h.1 in
    let same : x ≡ n = cc in
    let h0 = h.0 in
    (same, grind (arith, nat_tests))

fitted : (x n : ℕ) → x ≡ n → n < 10 ^ 18 → fitting x ≡ Some n
fitted x n e lt =
    let small : nat_lt x end_of_values ≡ true = grind (arith, nat_tests) in
    rw small (ap (λ (m : ℕ). Some m) e)

-- ---- from a result

zero_scaled : (e : ℤ) (d size n : ℕ) → d ≡ 0 → n ≡ 0 → IsScaled d size e n
zero_scaled (pos p) d size n none zero_it = rw (none, zero_it) (grind arith)
zero_scaled (negsuc k) d size n none zero_it = rw (none, zero_it) (grind arith)

by_sound : (d size : ℕ) (e : ℤ) (n : ℕ) → by_power (d * size) e ≡ Some n → IsScaled d size e n × (n < 10 ^ 18)
by_sound d size (pos p) n h =
    let f = fits (d * size * 10 ^ p) n (unless (nat_lt 38 p) (fitting (d * size * 10 ^ p)) n h) in (sym f.0, f.1)
by_sound d size (negsuc k) n h =
    let g = where_true (d * size % 10 ^ (k + 1) == 0) (fitting (d * size / 10 ^ (k + 1))) n
    (unless (nat_lt 38 (k + 1)) (scaled_down (d * size) (k + 1)) n h) in
    let f = fits (d * size / 10 ^ (k + 1)) n g.1 in
    let whole : d * size % 10 ^ (k + 1) ≡ 0 = let g0 = g.0 in grind (arith, nat_tests) in
    let all : d * size / 10 ^ (k + 1) * 10 ^ (k + 1) + d * size % 10 ^ (k + 1) ≡ d * size = div-add-mod' (d * size) (10 ^ (k + 1)) in
    let is : n * 10 ^ (k + 1) ≡ d * size / 10 ^ (k + 1) * 10 ^ (k + 1) = ap (λ (x : ℕ). x * 10 ^ (k + 1)) (sym f.0) in
    (omega (arith, is, all, whole), f.1)

magnitude_sound : (d size : ℕ) (e : ℤ) (n : ℕ) → of_magnitude d e size ≡ Some n → IsScaled d size e n × (n < 10 ^ 18)
magnitude_sound d size e n h =
    elim (d == 0) as (λ (b : Bool). (b ≡ true → d ≡ 0) → (if b then Some 0 else by_power (d * size) e) ≡ Some n
    → IsScaled d size e n × (n < 10 ^ 18)) [
      | true ↦ λ is h'. let none : n ≡ 0 = cc in (zero_scaled e d size n (is refl) none, rw none (lit< tt))
      | false ↦ λ is h'. by_sound d size e n h'
    ] (λ t. grind (arith, nat_tests)) h

pub sound : (m e : ℤ) (size n : ℕ) → of_mantissa m e size ≡ Some n
    → (digits : ℕ) × (m ≡ pos digits) × IsScaled digits size e n × (n < 10 ^ 18)
sound (pos d) e size n h = let s = magnitude_sound d size e n h in (d, refl, s.0, s.1)
sound (negsuc k) e size n h = absurd cc

-- ---- to a result

none_of_none : (d size : ℕ) (e : ℤ) (n : ℕ) → d ≡ 0 → IsScaled d size e n → n ≡ 0
none_of_none d size (pos p) n none h = rw none at h ∙ grind arith
none_of_none d size (negsuc k) n none h =
    let some = power_some (k + 1) in
    let least : n * 1 ≤ n * 10 ^ (k + 1) = mul-le-mul_left n (omega (arith, some)) in
    let nothing : d * size ≡ 0 = rw none (grind arith) in
    omega (arith, least, h, nothing)

low : (p : ℕ) → (38 < p → ⊥) → nat_lt 38 p ≡ false
low p f = elim (nat_lt 38 p) as (λ (b : Bool). (b ≡ true → 38 < p) → b ≡ false)
    [ true ↦ λ over. absurd (f (over refl)) | false ↦ λ over. refl ] (λ t. grind (arith, nat_tests))

positive : (n k x : ℕ) → n * 10 ^ k ≡ x → 0 < x → 0 < n
positive zero k x h some = let none : 0 * 10 ^ k ≡ 0 = grind arith in absurd (omega (arith, none, h, some))
positive (suc n) k x h some = omega arith

times_some : (d size : ℕ) → 0 < d → 0 < size → 0 < d * size
times_some d size some some' = let least : d * 1 ≤ d * size = mul-le-mul_left d some' in omega (arith, least)

by_exact : (d size : ℕ) (e : ℤ) (n : ℕ) → 0 < d * size → d * size < 10 ^ 38 → IsScaled d size e n → n < 10 ^ 18
    → by_power (d * size) e ≡ Some n
by_exact d size (pos p) n some few h lt =
    let least : 1 * 10 ^ p ≤ d * size * 10 ^ p = mul-le-mul_right (10 ^ p) some in
    let high : 38 < p → 10 ^ 39 ≤ 10 ^ p = λ over. pow-le-pow_right (lit< tt) over in
    let none : nat_lt 38 p ≡ false = low p (λ over. let big = high over in omega (arith, least, h, lt, big)) in
    rw none (fitted (d * size * 10 ^ p) n (sym h) lt)
by_exact d size (negsuc k) n some few h lt =
    let there : 0 < n = positive n (k + 1) (d * size) h some in
    let least : 1 * 10 ^ (k + 1) ≤ n * 10 ^ (k + 1) = mul-le-mul_right (10 ^ (k + 1)) there in
    let high : 38 < k + 1 → 10 ^ 39 ≤ 10 ^ (k + 1) = λ over. pow-le-pow_right (lit< tt) over in
    let none : nat_lt 38 (k + 1) ≡ false = low (k + 1) (λ over. let big = high over in omega (arith, least, h, few, big)) in
    let whole : d * size % 10 ^ (k + 1) ≡ 0 = ap (λ (x : ℕ). x % 10 ^ (k + 1)) (sym h) ∙ mul-mod_left n (10 ^ (k + 1)) in
    let part : d * size / 10 ^ (k + 1) ≡ n = ap (λ (x : ℕ). x / 10 ^ (k + 1)) (sym h) ∙ mul-div_cancel n (power_some (k + 1)) in
    let is : (d * size % 10 ^ (k + 1) == 0) ≡ true = grind (arith, nat_tests) in
    rw (none, is) (fitted (d * size / 10 ^ (k + 1)) n part lt)

pub exact : (d : ℕ) (e : ℤ) (size n : ℕ) → d * size < 10 ^ 38 → 0 < size → IsScaled d size e n → n < 10 ^ 18
    → of_mantissa (pos d) e size ≡ Some n
exact d e size n few some h lt =
    elim (d == 0) as (λ (b : Bool). (b ≡ true → d ≡ 0) → (b ≡ false → 0 < d)
    → (if b then Some 0 else by_power (d * size) e) ≡ Some n) [
      | true ↦ λ is other. ap (λ (m : ℕ). Some m) (sym (none_of_none d size e n (is refl) h))
      | false ↦ λ is other. by_exact d size e n (times_some d size (other refl) some) few h lt
    ] (λ t. grind (arith, nat_tests)) (λ t. grind (arith, nat_tests))

pub bounded : (d size : ℕ) → d < 2 ^ 64 → size ≤ 3600000000000 → d * size < 10 ^ 38
bounded d size few small =
    let one : d * size ≤ d * 3600000000000 = mul-le-mul_left d small in
    omega (arith, one)

-- ---- a point

seen_one : (p q : Point) → Known p ≡ Known q → p ≡ q
seen_one p q e = cc

number_one : (d e : Decimal) → value.Number d ≡ value.Number e → d ≡ e
number_one d e h = cc

abbrev size_in : Option (Counted × ℕ) → ℕ
size_in None = 0
size_in (Some x) = x.1

pub only_amount : (q found : Counted) (point : Point) (d : Decimal) (size : ℕ) (seen : Seen) (amount : ℕ) → Known point ≡ seen
    → point.value ≡ value.Number d → size_of point.quantity ≡ Some (found, size) → 0 < size → size ≤ 3600000000000
    → ((k : ℕ) → d.mantissa ≡ pos k → k < 2 ^ 64) → IsAmount q seen amount → of_decimal d size ≡ Some amount
only_amount q found point d size seen amount is number counted some few small a =
    let e : point ≡ a.point = seen_one point a.point (is ∙ a.seen_as) in
    let same : d ≡ record { mantissa = pos a.digits; exponent = a.power } =
    number_one d (record { mantissa = pos a.digits; exponent = a.power }) (sym number ∙ (ap (λ (p : Point). p.value) e ∙ a.number)) in
    let size_is : size ≡ a.size = ap size_in (sym counted) ∙ (ap (λ (p : Point). size_in (size_of p.quantity)) e ∙ ap size_in a.counted) in
    let fits_it : a.digits < 2 ^ 64 = small a.digits (ap (λ (x : Decimal). x.mantissa) same) in
    ap (λ (x : Decimal). of_decimal x size) same
    ∙ (ap (λ (n : ℕ). of_decimal (record { mantissa = pos a.digits; exponent = a.power }) n) size_is
    ∙ exact a.digits a.power a.size amount (bounded a.digits a.size fits_it (omega (arith, size_is, few))) (omega (arith, size_is, some))
    a.scaled a.small)
