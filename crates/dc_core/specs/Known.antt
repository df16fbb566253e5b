-- Why a telegram that was requested isn't taken: because the register has no room, and never
-- because it doesn't know the meter (this product).
use Rattle.std.specs.Prelude.{◌≡◌, ◌≢◌, ℕ, ◌≤◌, Some, Err, IsSome, List, length}
use Rattle.dc_records.specs.Telegram.{Parsed}
use Rattle.dc_readout.specs.Summary.{Summary, new, asked_by, verdict_by}
use Rattle.mbdc_change.specs.State.{State}
use Rattle.mbdc_change.specs.Accepts.{refusal}
use Rattle.mbdc_change.specs.declared.fault.ChangeFault.TheVariants.{Unknown, Full as RegisterFull}
use Rattle.dc_core.specs.Taking.{change_of}
use Rattle.dc_core.specs.Waiting.{most_waiting}
use Rattle.dc_core.specs.declared.fault.HearFault.TheVariants.{Full, PendingFull}
use Rattle.dc_core.specs.Core.{Core, present, session_of, opened}
use Rattle.dc_core.specs.Step.{hear_answer}
use Rattle.dc_core.specs.Transcript.{Turn, leads, IsChain}

-- this answer is the telegram that is requested on the line
pub record IsTelegramFor (core : Core) (line : ℕ) (answer : List ℕ) (part : ℕ)
    (telegram : Parsed) : Type 0 where
  pub session : Summary
  pub on_line : session_of core line ≡ Some session
  pub is_asked : IsSome (asked_by session)
  pub is_new : verdict_by session answer ≡ new part telegram

-- the register has no room for the telegram that this answer is
pub record IsForWantOfRoom (budget : ℕ) (core : Core) (line moment : ℕ)
    (answer : List ℕ) : Type 0 where
  pub part : ℕ
  pub telegram : Parsed
  pub is_telegram : IsTelegramFor core line answer part telegram
  pub full : refusal budget (change_of moment part telegram) (present core) ≡ Some RegisterFull

-- Each telegram that is requested is of a registered meter and its readout's next part. At most the
-- maximum number of changes is pending; `Full` means that the register is full, and `PendingFull`
-- that the maximum number is pending.
pub record KnowsItsMeters (budget : ℕ) (core : Core) : Type 0 where
  pub known : (line moment part : ℕ) (answer : List ℕ) (telegram : Parsed)
      → IsTelegramFor core line answer part telegram
      → refusal budget (change_of moment part telegram) (present core) ≢ Some Unknown
  pub few : length core.pending ≤ most_waiting
  pub full : (line moment : ℕ) (answer : List ℕ)
      → hear_answer budget core line moment answer ≡ Err Full
      → IsForWantOfRoom budget core line moment answer
  pub pending_full : (line moment : ℕ) (answer : List ℕ)
      → hear_answer budget core line moment answer ≡ Err PendingFull
      → length core.pending ≡ most_waiting

-- NO TELEGRAM THAT WAS REQUESTED IS UNKNOWN, in every chain of steps from a newly opened
-- concentrator.
abbrev pub NoneIsUnknown : Type 0
NoneIsUnknown = (budget : ℕ) (state : State) (turns : List Turn)
    → IsChain budget (opened state) turns → KnowsItsMeters budget (leads (opened state) turns)
