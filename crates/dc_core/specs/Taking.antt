-- A telegram that is taken into the register and into the pending changes (this product).
use Rattle.std.specs.Prelude.{◌≡◌, ℕ, ◌+◌, ◌++◌, Option, None, Some, is_some, nat_le, if◌then◌else◌}
use Rattle.dc_records.specs.Telegram.{Parsed}
use Rattle.mbdc_change.specs.declared.change.Change.{Change}
use Rattle.mbdc_change.specs.declared.change.Change.TheVariants.{Telegram}
use Rattle.mbdc_change.specs.Body.{body_of}
use Rattle.mbdc_change.specs.State.{State, Held}
use Rattle.mbdc_change.specs.Apply.{applied}
use Rattle.mbdc_change.specs.Accepts.{Accepts, refusal}
use Rattle.mbdc_change.specs.Encoding.{change_bytes}
use Rattle.mbdc_change.specs.Valid.{IsChange}
use Rattle.dc_core.specs.declared.pending.fault.TakeFault.{TakeFault}
use Rattle.dc_core.specs.declared.pending.fault.TakeFault.TheVariants.{PendingFull, Full}
use Rattle.dc_core.specs.Waiting.{Waiting, most_waiting}

-- the change that a telegram is
abbrev pub change_of : ℕ → ℕ → Parsed → Change
change_of moment part telegram = Telegram part moment (body_of telegram)

-- why a change isn't taken, if memory is available
abbrev pub refuses : ℕ → ℕ → Change → State → Option TakeFault
refuses budget count change state =
    if nat_le most_waiting count then Some PendingFull
    else if is_some (refusal budget change state) then Some Full
    else None

-- The register accepts the change and has it, and its encoding is the last of the pending ones.
pub record IsTaken (old new : Held) (before now : Waiting) (change : Change) : Type 0 where
  pub is_change : IsChange change
  pub accepted : Accepts old.budget change old.state
  pub house_is : new ≡ record old { state = applied change old.state }
  pub waits : now ≡ record { bytes = before.bytes ++ change_bytes change; count = before.count + 1 }
