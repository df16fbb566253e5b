-- A wire in memory, as contracts see it: the bytes that are still to come, and in which steps (this product).
use Rattle.std.specs.Prelude.{◌≡◌, ℕ, Bool, false, List, ◌++◌, length}
use Rattle.mbdc_raw.specs.Looks.{waits_of}
use Rattle.mbdc_raw.specs.Wire.{Sound, bytes_of}
use Rattle.mbdc_raw.specs.declared.tape.Event.{Event}
use Rattle.mbdc_raw.specs.declared.wire.Asking.{Asking}

pub record Taped : Type 0 where
  pub bytes : List ℕ
  pub events : List Event
  pub failures : ℕ

-- the number of events left
abbrev pub tape_waits : Taped → ℕ
tape_waits tape = waits_of (length tape.events)

-- what comes is a prefix of the bytes that are left
abbrev pub TapeHears : Taped → Sound → Taped → Type 0
TapeHears old sound new = old.bytes ≡ bytes_of sound ++ new.bytes

-- nothing is written
abbrev pub TapeSends : Taped → List ℕ → Asking → Taped → Type 0
TapeSends old request asking new = new ≡ old

-- it doesn't close
abbrev pub TapeReopens : Taped → Bool → Taped → Type 0
TapeReopens old again new = (again ≡ false) × (new ≡ old)
