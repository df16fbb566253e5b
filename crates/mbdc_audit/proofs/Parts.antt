-- The amounts of parts that tile a period add up to the period's.
use Rattle.std.proofs.Common.{arith, ◌≡◌, ◌≤◌, ◌<◌, ◌+◌, ℕ, List, [], ◌∷◌, map, Option, None, Some, refl, ap, ◌∙◌}
use Rattle.mbdc_audit.specs.declared.consumption.entry.Entry.{Entry}
use Rattle.mbdc_audit.specs.Consumption.Curve.{curve}
use Rattle.mbdc_audit.specs.Consumption.Order.{IsInOrder}
use Rattle.mbdc_audit.specs.Consumption.Period.{added, consumption, sum_of}
use Rattle.mbdc_audit.proofs.Consumed.Rising.{two_periods}
use Rattle.mbdc_audit.proofs.Consumed.Risen.{rising_curve}
use Rattle.mbdc_audit.specs.House.{Part}
use Rattle.mbdc_audit.specs.Sound.{Tile}

climbs : (a b c : ℕ) → b ≡ a → b < c → a ≤ c
climbs a b c e lt = omega arith

through : (a b c : ℕ) → a ≤ b → b ≤ c → a ≤ c
through a b c le le' = omega arith

at_once : (a b : ℕ) → a ≡ b → a ≤ b
at_once a b e = omega arith

below : (a b : ℕ) → a < b → a ≤ b
below a b lt = omega arith

rises : (a b : ℕ) (parts : List Part) → Tile a b parts → a ≤ b
rises a b [] e = at_once a b e
rises a b (p ∷ parts) t = through a p.to b (climbs a p.from p.to t.0 t.1) (rises p.to b parts t.2)

added_none : (x : Option ℕ) → added x (Some 0) ≡ x
added_none None = refl
added_none (Some x) = let e : x + 0 ≡ x = omega arith in ap (λ (n : ℕ). Some n) e

pub add_up : (entries : List Entry) → IsInOrder entries → (a b : ℕ) (p : Part) (parts : List Part) → Tile a b (p ∷ parts)
    → sum_of (map (λ x. consumption entries x.from x.to) (p ∷ parts)) ≡ consumption entries a b
add_up entries order a b p [] t = added_none (consumption entries p.from p.to)
    ∙ (ap (λ (x : ℕ). consumption entries x p.to) t.0 ∙ ap (λ (x : ℕ). consumption entries a x) t.2)
add_up entries order a b p (q ∷ parts) t =
    ap (λ (x : Option ℕ). added (consumption entries p.from p.to) x) (add_up entries order p.to b q parts t.2)
    ∙ (two_periods (curve entries) (rising_curve entries order) p.from p.to b (below p.from p.to t.1)
    (rises p.to b (q ∷ parts) t.2)
    ∙ ap (λ (x : ℕ). consumption entries x b) t.0)
