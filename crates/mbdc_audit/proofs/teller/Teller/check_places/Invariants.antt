use Rattle.std.proofs.Common.{◌≡◌, All, take, flat_map}
use Rattle.mbdc_audit.specs.Walk.{AreFound, IsMet, Walks, fit, key_lived, key_of, live}
use Rattle.std.specs.BTreeMap.{get}
use Rattle.std.specs.Ordering.{nat_cmp}
use Rattle.mbdc_audit.specs.Sound.{IsBuilt, ends_of_place, fitted_of, lived_of}
use Rattle.mbdc_audit.specs.View.{house_of, place_of}
use Rattle.mbdc_audit.proofs.Places.{SoFar, of_places}
use Rattle.mbdc_audit.proofs.teller.Teller.check_places.Given as goal

abbrev pub invariant-places : goal.invariant-places
invariant-places g l = IsMet key_of fit l.meters (of_places fitted_of (take l.i l.places)) × IsMet key_lived live l.parts (of_places lived_of (take l.i l.places))
    × (IsBuilt (house_of l.house) → All (λ p. All (λ w. AreFound w.values.items) p.windows.items) l.places
    → l.places ≡ l.house.places.items → Walks l.initial.self.counts (get nat_cmp l.initial.offsets) l.self.counts (get nat_cmp l.offsets)
    (flat_map (λ p. ends_of_place (place_of p)) (take l.i l.places)) (SoFar (house_of l.house) (take l.i l.places)))
