-- What a poll does, round after round (this product).
use Rattle.std.specs.Prelude.{◌≡◌, ◌⊎◌, ℕ, ◌+◌, ◌-◌, ◌^◌, min, Bool, List, [], ◌∷◌, ◌++◌}
use Rattle.std.specs.Prelude.{Option, None, Some, Result, Err}
use Rattle.std.specs.Result.{result_err}
use Rattle.std.specs.List.{All}
use Rattle.dc_core.specs.Core.{Core}
use Rattle.dc_core.specs.Event.{commits, committed}
use Rattle.dc_core.specs.Transcript.{Turn}
use Rattle.dc_core.specs.declared.fault.CommitFault.{CommitFault}
use Rattle.mbdc_poll.specs.Bus.{Bus}
use Rattle.mbdc_poll.specs.Happening.{Happening, happened_events, happened_turns, reads_in}
use Rattle.mbdc_poll.specs.Happening.{failures_in}
use Rattle.mbdc_poll.specs.Keeping.{AreTrue, InRounds, IsRound, Store, all_kept, some_wait}
use Rattle.mbdc_poll.specs.Keeping.{store_behind, unkept}
use Rattle.mbdc_poll.specs.Round.{HasFew, IsFresh, IsOver, IsSilent, Rounds, lates_from}
use Rattle.mbdc_poll.specs.Round.{meters_left}
use Rattle.mbdc_poll.specs.Waiting.{may_sleep}
use Rattle.mbdc_poll.specs.declared.event.Event.{Event as Told}
use Rattle.mbdc_poll.specs.declared.event.Event.TheVariants.{End as has_ended}
use Rattle.mbdc_poll.specs.declared.outcome.Counts.{Counts}
use Rattle.mbdc_poll.specs.declared.outcome.Outcome.{Outcome}
use Rattle.mbdc_poll.specs.declared.station.Station.{Station}

-- the fault of a commit, if it returned one
abbrev pub fault_of : Result (Unit {0}) CommitFault → Option CommitFault
fault_of stored = result_err stored

-- where a commit leaves the store
abbrev pub store_of : Option CommitFault → Store
store_of None = all_kept
store_of (Some fault) = unkept

-- where a commit returned a fault, it is the last turn
abbrev pub EndsIn : Option CommitFault → List Turn → Type 0
EndsIn None turns = Unit {0}
EndsIn (Some fault) turns = (front : List Turn)
    × (turns ≡ front ++ (commits, committed (Err fault)) ∷ [])

-- ONE ROUND. All lines go on by what happens. First they are asked; then time passes, and the poll
-- may sleep exactly where each line waits for its bus or has nothing left. The answers get the time
-- stamp that the timer returns then, and are committed. Then each end of a readout gives an event, and is
-- counted.
pub record GoesRound {B T : Type 0} (g : Bus B) (told : T → ℕ → T → Type 0)
    (passes : T → Bool → T → Type 0)
    (tries : ℕ) (fault : Option CommitFault) (olds news : List (Station B)) (first last : T)
    (took : List Told → Type 0)
    (was now : Counts) (core : Core) (happened : List Happening) : Type 0 where
  pub passed : T
  pub moment : ℕ
  pub rounds : Rounds g tries olds news happened
  pub asked : List (Station B)
  pub asking : List Happening
  pub rest : List Happening
  pub parts : happened ≡ asking ++ rest
  pub asks : Rounds g tries olds asked asking
  pub goes_on : Rounds g tries asked news rest
  pub waits : passes first (may_sleep asked) passed
  pub reads_time : told passed moment last
  pub is_round : IsRound moment (happened_turns happened)
  pub asks_first : is_round.asking ≡ happened_turns asking
  pub keeps : (store : Store) → store_behind store (happened_turns happened) ≡ store_of fault
  pub ends : EndsIn fault (happened_turns happened)
  pub events : took (happened_events happened)
  pub are_true : (store : Store) → AreTrue core store happened
  pub read : now.read ≡ was.read + reads_in happened
  pub failed : now.failed ≡ was.failed + failures_in happened

-- A POLL up to here: after the first commit round after round, as long as all is kept. The events are
-- how readouts ended, each after its commit, and they are counted. So the store is left.
pub record PollsTo {B T : Type 0} (g : Bus B) (told : T → ℕ → T → Type 0)
    (passes : T → Bool → T → Type 0)
    (tries : ℕ) (store : Store) (olds news : List (Station B)) (first last : T)
    (took : List Told → Type 0)
    (was now : Counts) (core : Core) (happened : List Happening) : Type 0 where
  pub rounds : Rounds g tries olds news happened
  pub keeps : InRounds told passes first (happened_turns happened) last
  pub stored : store_behind some_wait (happened_turns happened) ≡ store
  pub events : took (happened_events happened)
  pub are_true : AreTrue core some_wait happened
  pub read : now.read ≡ was.read + reads_in happened
  pub failed : now.failed ≡ was.failed + failures_in happened

-- A POLL: it goes on until no meter is left and no request is out, or until a commit returns a
-- fault, which is the last turn then. That is known where no meter was started before it, and a
-- queue has no more meters than 65,535.
pub record Polled {B T : Type 0} (g : Bus B) (told : T → ℕ → T → Type 0)
    (passes : T → Bool → T → Type 0)
    (tries : ℕ) (olds news : List (Station B)) (first last : T) (took : List Told → Type 0)
    (was : Counts) (now : Outcome) (core : Core) (happened : List Happening) : Type 0 where
  pub counts : Counts
  pub polls : PollsTo g told passes tries (store_of now.fault) olds news first last took was counts
      core happened
  pub ended : (store_of now.fault ≡ unkept) ⊎ (All IsFresh olds → All HasFew olds
      → All IsOver news × All IsSilent news)
  pub read : now.read ≡ counts.read
  pub failed : now.failed ≡ counts.failed
  pub fault : EndsIn now.fault (happened_turns happened)

-- A WHOLE POLL: after it come the late answers of each line, and how many meters were read and how many weren't.
-- The meters that are left count as such.
pub record PollsAll {B T : Type 0} (g : Bus B) (told : T → ℕ → T → Type 0)
    (passes : T → Bool → T → Type 0)
    (tries : ℕ) (olds news : List (Station B)) (first last : T) (took : List Told → Type 0)
    (was : Counts) (now : Outcome) (core : Core) (happened : List Happening) : Type 0 where
  pub between : Outcome
  pub polled : Polled g told passes tries olds news first last
      (λ events. took (events ++ (lates_from g 1 news ++ has_ended now.read now.failed ∷ []))) was
      between
      core happened
  pub read : now.read ≡ between.read
  pub failed : now.failed ≡ min (2 ^ 64 - 1) (between.failed + meters_left news)
  pub fault : now.fault ≡ between.fault
