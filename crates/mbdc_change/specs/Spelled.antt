-- The bytes that spell a state or a list of changes.
use Rattle.std.specs.Prelude.{◌≡◌, ℕ, List, All}
use Rattle.mbdc_change.specs.declared.change.Change.{Change}
use Rattle.mbdc_change.specs.State.{State}
use Rattle.mbdc_change.specs.Encoding.{state_bytes, changes_bytes}
use Rattle.mbdc_change.specs.Valid.{IsChange, IsState}

-- bytes that spell a state within a budget
pub record SpellsState (budget : ℕ) (bytes : List ℕ) (s : State) : Type 0 where
  pub spelled : bytes ≡ state_bytes s
  pub is_state : IsState budget s

-- bytes that spell a list of changes
pub record SpellsChanges (bytes : List ℕ) (changes : List Change) : Type 0 where
  pub spelled : bytes ≡ changes_bytes changes
  pub are_changes : All IsChange changes
