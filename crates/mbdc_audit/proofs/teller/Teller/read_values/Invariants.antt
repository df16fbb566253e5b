-- the places so far are read, and the others stand as they were
use Rattle.std.proofs.Common.{◌≡◌, ◌↔◌, All, IsTrue, map, take}
use Rattle.mbdc_audit.specs.Settled.{AreCounted, AreKnown, AreOnly, IsReadBy}
use Rattle.mbdc_audit.specs.View.{place_of, run_of, use_of}
use Rattle.mbdc_audit.specs.Walk.{is_clean}
use Rattle.mbdc_audit.specs.File.{bare_place}
use Rattle.mbdc_audit.proofs.teller.Teller.read_values.Given as goal

abbrev pub invariant-places : goal.invariant-places
invariant-places g l = (IsTrue (is_clean l.self.counts) ↔ (IsTrue (is_clean l.initial.self.counts)
    × All (λ p. IsReadBy (map use_of l.uses) (place_of p)) (take l.place-index l.places)))
    × (map (λ p. bare_place (place_of p)) l.places ≡ map (λ p. bare_place (place_of p)) l.initial.places)
    × (IsTrue (is_clean l.self.counts) → All (λ p. All AreKnown p.windows.items) (take l.place-index l.places))
    × All (λ p. All (AreCounted (map run_of p.runs.items)) p.windows.items) (take l.place-index l.places)
    × All (AreOnly (map use_of l.uses)) (take l.place-index l.places)
