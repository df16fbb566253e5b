-- The places of a house add up.
use Rattle.std.proofs.Common.{◌≡◌, ℕ, suc, ◌≤◌, List, [], ◌∷◌, ◌++◌, map, refl, sym, ap, ◌∙◌, arith}
use Rattle.std.specs.Prelude.{All}
use Rattle.std.specs.List.{AllByRecursion}
use Rattle.std.specs.List.Sorted.{IsNonDecreasing}
use Rattle.mbdc_audit.specs.declared.consumption.entry.Entry.{Entry}
use Rattle.mbdc_audit.specs.Consumption.Step.{with_next}
use Rattle.mbdc_audit.specs.Consumption.Order.{IsInOrder}
use Rattle.mbdc_audit.specs.Consumption.Curve.{curve}
use Rattle.mbdc_audit.specs.Consumption.Period.{between, added, sum_of, consumption, consumptions, house_curve, house_consumption, house_consumptions}
use Rattle.mbdc_audit.proofs.Consumed.Rising.{IsRising, Climbs, climbs, climbs_to, many_periods, rising_sum, sum_of_periods}
use Rattle.mbdc_audit.proofs.Consumed.Risen.{rising_curve}

all_rising : (places : List (List Entry)) → All IsInOrder places → AllByRecursion (λ (entries : List Entry). IsRising (curve entries)) places
all_rising [] all = tt
all_rising (entries ∷ places) all = (rising_curve entries (all 0 entries (omega arith)), all_rising places (λ k d lt. all (suc k) d (omega arith)))

pub house_by_curves : (places : List (List Entry)) (from to : ℕ) → All IsInOrder places → from ≤ to
    → house_consumption places from to ≡ between (house_curve places from) (house_curve places to)
house_by_curves places from to all le = sum_of_periods curve places (all_rising places all) from to le

pub place_by_periods : (entries : List Entry) (from : ℕ) (middle : List ℕ) (to : ℕ) → IsInOrder entries → IsNonDecreasing (from ∷ (middle ++ to ∷ []))
    → sum_of (consumptions entries (from ∷ (middle ++ to ∷ []))) ≡ consumption entries from to
place_by_periods entries from middle to order up =
    many_periods (curve entries) (rising_curve entries order) from middle to (climbs from (middle ++ to ∷ []) up)

-- the periods of a house are those of the sum of its curves
by_curves : (places : List (List Entry)) → All IsInOrder places → (from : ℕ) (rest : List ℕ) → Climbs from rest
    → house_consumptions places (from ∷ rest) ≡ map (λ p. between (house_curve places p.0) (house_curve places p.1)) (with_next (from ∷ rest))
by_curves places all from [] up = refl
by_curves places all from (to ∷ rest) up =
    let first = house_by_curves places from to all up.0 in
    let more = by_curves places all to rest up.1 in
    λ i. first i ∷ more i

pub house_by_periods : (places : List (List Entry)) (from : ℕ) (middle : List ℕ) (to : ℕ) → All IsInOrder places → IsNonDecreasing (from ∷ (middle ++ to ∷ []))
    → sum_of (house_consumptions places (from ∷ (middle ++ to ∷ []))) ≡ house_consumption places from to
house_by_periods places from middle to all order =
    let up = climbs from (middle ++ to ∷ []) order in
    ap sum_of (by_curves places all from (middle ++ to ∷ []) up)
    ∙ many_periods (house_curve places) (rising_sum curve places (all_rising places all)) from middle to up
    ∙ sym (house_by_curves places from to all (climbs_to from middle to up))

pub house_by_places : (places : List (List Entry)) (from : ℕ) (middle : List ℕ) (to : ℕ) → All IsInOrder places → IsNonDecreasing (from ∷ (middle ++ to ∷ []))
    → sum_of (map (λ entries. sum_of (consumptions entries (from ∷ (middle ++ to ∷ [])))) places) ≡ house_consumption places from to
house_by_places [] from middle to all order = refl
house_by_places (entries ∷ places) from middle to all order =
    let first = place_by_periods entries from middle to (all 0 entries (omega arith)) order in
    let more = house_by_places places from middle to (λ k d lt. all (suc k) d (omega arith)) order in
    λ i. added (first i) (more i)
