-- Changes that are applied as they are decoded.
use Rattle.std.specs.Prelude.{◌≡◌, ℕ, List, ◌++◌, All}
use Rattle.mbdc_change.specs.declared.change.Change.{Change}
use Rattle.mbdc_change.specs.State.{Held}
use Rattle.mbdc_change.specs.Accepts.{Accepts}
use Rattle.mbdc_change.specs.History.{after, AcceptsAll}
use Rattle.mbdc_change.specs.Encoding.{change_bytes, changes_bytes}
use Rattle.mbdc_change.specs.Valid.{IsChange}

-- a prefix of the bytes spells changes, each accepted in turn and applied; the rest follows
pub record IsApplied (old new : Held) (bytes rest : List ℕ) : Type 0 where
  pub changes : List Change
  pub spelled : bytes ≡ changes_bytes changes ++ rest
  pub are_changes : All IsChange changes
  pub accepted : AcceptsAll old.budget old.state changes
  pub applied : new ≡ record old { state = after old.state changes }

-- the next change is accepted, and isn't applied
pub record IsHeldUp (old new : Held) (bytes : List ℕ) : Type 0 where
  pub next : Change
  pub behind : List ℕ
  pub so_far : IsApplied old new bytes (change_bytes next ++ behind)
  pub is_change : IsChange next
  pub accepted : Accepts new.budget next new.state

-- the bytes begin with no change that is accepted
abbrev pub BeginsUnaccepted : Held → List ℕ → Type 0
BeginsUnaccepted held bytes = (next : Change) → (others : List ℕ)
    → bytes ≡ change_bytes next ++ others → IsChange next → Accepts held.budget next held.state → ⊥
