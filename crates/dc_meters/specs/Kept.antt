-- A house in memory: its running size is the size of its state.
use Rattle.std.specs.Prelude.{◌≡◌, ℕ}
use Rattle.mbdc_change.specs.State.{State}
use Rattle.mbdc_change.specs.Size.{size_of}
use Rattle.mbdc_change.specs.Valid.{IsState}

pub record IsKept (size budget : ℕ) (s : State) : Type 0 where
  pub size_is : size ≡ size_of s
  pub state_is : IsState budget s
