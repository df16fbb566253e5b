-- The clock of a poll on this system, from one call to the next (this product).
use Rattle.std.specs.Prelude.{◌≡◌, ℕ, Bool, false}
use Rattle.mbdc_commands.specs.declared.timer.HostTimer.{HostTimer}

-- it returned a time, and which one is in no contract
abbrev pub TellsTime : {R W : Type 0} → HostTimer R W → ℕ → HostTimer R W → Type 0
TellsTime old moment new = new.waits ≡ old.waits

-- time passed; where the poll may not sleep, nothing is waited for
abbrev pub LetsPass : {R W : Type 0} → HostTimer R W → Bool → HostTimer R W → Type 0
LetsPass old may_sleep new = may_sleep ≡ false → new ≡ old

-- a warning changes nothing
abbrev pub IsWarned : {R W : Type 0} → HostTimer R W → HostTimer R W → Type 0
IsWarned old new = new ≡ old
