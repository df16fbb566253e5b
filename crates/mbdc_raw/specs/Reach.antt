-- Connecting the links of the bus lines (this product): each named link is tried once, in the order of the lines.
use Rattle.std.specs.Prelude.{◌≡◌, ℕ, ◌+◌, List, [], ◌∷◌, Option, None, Some}

module _ {C N P : Type 0} (tries : C → N → Option P → C → Type 0) where
  -- Where a link isn't connected, that was said of its line, and the line has no peer.
  abbrev pub Reaches : (C → ℕ → C → Type 0) → ℕ → List (Option N) → List (Option P) → C → C → Type 0
  Reaches says line [] [] old new = new ≡ old
  Reaches says line (None ∷ links) (None ∷ peers) old new = Reaches says (line + 1) links peers old new
  Reaches says line (Some link ∷ links) (Some peer ∷ peers) old new =
      (mid : C) × tries old link (Some peer) mid × Reaches says (line + 1) links peers mid new
  Reaches says line (Some link ∷ links) (None ∷ peers) old new =
      (mid : C) × (said : C) × tries old link None mid × says mid line said
      × Reaches says (line + 1) links peers said new
  Reaches says line links peers old new = ⊥

-- These links were given back, the first one first.
abbrev pub Releases : {C P : Type 0} → (C → P → C → Type 0) → List (Option P) → C → C → Type 0
Releases releases [] old new = new ≡ old
Releases releases (None ∷ peers) old new = Releases releases peers old new
Releases {C} releases (Some peer ∷ peers) old new =
    (mid : C) × releases old peer mid × Releases releases peers mid new
