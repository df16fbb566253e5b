-- What the steps of an accepted command need.
use Rattle.std.specs.Prelude.{◌≡◌, ℕ, false}
use Rattle.mbdc_change.specs.declared.command.Command.{Command}
use Rattle.mbdc_change.specs.State.{State}
use Rattle.mbdc_change.specs.Accepts.{is_known, is_unknown, is_beyond, is_full}

-- no fault applies that a step depends on
pub record CanBeApplied (budget : ℕ) (command : Command) (s : State) : Type 0 where
  pub new : is_known command s ≡ false
  pub registered : is_unknown command s ≡ false
  pub given : is_beyond command s ≡ false
  pub room : is_full budget command s ≡ false
