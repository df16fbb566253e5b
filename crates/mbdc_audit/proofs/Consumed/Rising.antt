-- What holds of any curve that rises.
use Rattle.std.proofs.Common.{◌≡◌, ℕ, ◌+◌, ◌-◌, ◌≤◌, List, [], ◌∷◌, ◌++◌, map, Option, None, Some, suc, refl, ap, ◌∙◌, arith}
use Rattle.std.specs.List.{AllByRecursion}
use Rattle.std.specs.List.Sorted.{IsNonDecreasing}
use Rattle.mbdc_audit.specs.Consumption.Step.{with_next}
use Rattle.mbdc_audit.specs.Consumption.Period.{between, added, sum_of, Rises}

-- what stands between two that are known is known
abbrev pub Fills : Option ℕ → Option ℕ → Option ℕ → Type 0
Fills None y z = Unit {0}
Fills (Some x) (Some y) z = Unit {0}
Fills (Some x) None None = Unit {0}
Fills (Some x) None (Some z) = ⊥

-- a curve that never falls, and is known between moments at which it is known
pub record IsRising (C : ℕ → Option ℕ) : Type 0 where
  pub rises : (a b : ℕ) → a ≤ b → Rises (C a) (C b)
  pub fills : (a b c : ℕ) → a ≤ b → b ≤ c → Fills (C a) (C b) (C c)

-- ---- two periods, and many

joined : (x y z : Option ℕ) → Rises x y → Rises y z → Fills x y z → added (between x y) (between y z) ≡ between x z
joined None y z up up' fill = refl
joined (Some x) None None up up' fill = refl
joined (Some x) None (Some z) up up' fill = absurd fill
joined (Some x) (Some y) None up up' fill = refl
joined (Some x) (Some y) (Some z) up up' fill = let e : (y - x) + (z - y) ≡ z - x = omega arith in ap (λ (n : ℕ). Some n) e

pub two_periods : (C : ℕ → Option ℕ) → IsRising C → (a b c : ℕ) → a ≤ b → b ≤ c → added (between (C a) (C b)) (between (C b) (C c)) ≡ between (C a) (C c)
two_periods C rising a b c le le' = joined (C a) (C b) (C c) (rising.rises a b le) (rising.rises b c le') (rising.fills a b c le le')

added_none : (x : Option ℕ) → added x (Some 0) ≡ x
added_none None = refl
added_none (Some x) = let e : x + 0 ≡ x = omega arith in ap (λ (n : ℕ). Some n) e

-- each boundary is no earlier than the one before it
abbrev pub Climbs : ℕ → List ℕ → Type 0
Climbs a [] = Unit {0}
Climbs a (b ∷ rest) = (a ≤ b) × Climbs b rest

pub climbs : (a : ℕ) (rest : List ℕ) → IsNonDecreasing (a ∷ rest) → Climbs a rest
climbs a [] order = tt
climbs a (b ∷ rest) order =
    (order 0 1 a (omega arith) (omega arith), climbs b rest (λ i j d le lt. order (suc i) (suc j) d (omega arith) (omega arith)))

pub climbs_to : (a : ℕ) (middle : List ℕ) (z : ℕ) → Climbs a (middle ++ z ∷ []) → a ≤ z
climbs_to a [] z up = up.0
climbs_to a (b ∷ middle) z up = let le = climbs_to b middle z up.1 in omega arith

pub many_periods : (C : ℕ → Option ℕ) → IsRising C → (a : ℕ) (middle : List ℕ) (z : ℕ) → Climbs a (middle ++ z ∷ [])
    → sum_of (map (λ p. between (C p.0) (C p.1)) (with_next (a ∷ (middle ++ z ∷ [])))) ≡ between (C a) (C z)
many_periods C rising a [] z up = added_none (between (C a) (C z))
many_periods C rising a (b ∷ middle) z up =
    ap (added (between (C a) (C b))) (many_periods C rising b middle z up.1)
    ∙ two_periods C rising a b z up.0 (climbs_to b middle z up.1)

-- ---- several places

added_rises : (x x' y y' : Option ℕ) → Rises x y → Rises x' y' → Rises (added x x') (added y y')
added_rises None x' y y' up up' = tt
added_rises (Some x) None y y' up up' = tt
added_rises (Some x) (Some x') None y' up up' = tt
added_rises (Some x) (Some x') (Some y) None up up' = tt
added_rises (Some x) (Some x') (Some y) (Some y') up up' = omega arith

added_fills : (x x' y y' z z' : Option ℕ) → Fills x y z → Fills x' y' z' → Fills (added x x') (added y y') (added z z')
added_fills None x' y y' z z' fill fill' = tt
added_fills (Some x) None y y' z z' fill fill' = tt
added_fills (Some x) (Some x') None y' None z' fill fill' = tt
added_fills (Some x) (Some x') None y' (Some z) z' fill fill' = absurd fill
added_fills (Some x) (Some x') (Some y) None None z' fill fill' = tt
added_fills (Some x) (Some x') (Some y) None (Some z) None fill fill' = tt
added_fills (Some x) (Some x') (Some y) None (Some z) (Some z') fill fill' = absurd fill'
added_fills (Some x) (Some x') (Some y) (Some y') z z' fill fill' = tt

-- the difference of sums is the sum of differences
added_between : (x x' y y' : Option ℕ) → Rises x y → Rises x' y' → added (between x y) (between x' y') ≡ between (added x x') (added y y')
added_between None x' y y' up up' = refl
added_between (Some x) None None y' up up' = refl
added_between (Some x) None (Some y) y' up up' = refl
added_between (Some x) (Some x') None y' up up' = refl
added_between (Some x) (Some x') (Some y) None up up' = refl
added_between (Some x) (Some x') (Some y) (Some y') up up' = let e : (y - x) + (y' - x') ≡ (y + y') - (x + x') = omega arith in ap (λ (n : ℕ). Some n) e

module _ {P : Type 0} (C : P → ℕ → Option ℕ) where
  abbrev pub summed : List P → ℕ → Option ℕ
  summed places t = sum_of (map (λ (p : P). C p t) places)

  pub rising_sum : (places : List P) → AllByRecursion (λ (p : P). IsRising (C p)) places → IsRising (summed places)
  rising_sum [] all = record { rises = λ a b le. omega arith; fills = λ a b c le le'. tt }
  rising_sum (p ∷ places) all =
      let rest = rising_sum places all.1 in
      record {
        rises = λ a b le. added_rises (C p a) (summed places a) (C p b) (summed places b) (all.0.rises a b le) (rest.rises a b le);
        fills = λ a b c le le'. added_fills (C p a) (summed places a) (C p b) (summed places b) (C p c) (summed places c) (all.0.fills a b c le le') (rest.fills a b c le le');
      }

  pub sum_of_periods : (places : List P) → AllByRecursion (λ (p : P). IsRising (C p)) places → (a b : ℕ) → a ≤ b
      → sum_of (map (λ (p : P). between (C p a) (C p b)) places) ≡ between (summed places a) (summed places b)
  sum_of_periods [] all a b le = refl
  sum_of_periods (p ∷ places) all a b le =
      ap (added (between (C p a) (C p b))) (sum_of_periods places all.1 a b le)
      ∙ added_between (C p a) (summed places a) (C p b) (summed places b) (all.0.rises a b le) ((rising_sum places all.1).rises a b le)
