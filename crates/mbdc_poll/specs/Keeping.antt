-- What a round commits (this product).
use Rattle.std.specs.Prelude.{◌≡◌, ℕ, ◌+◌, ◌<◌, Bool, false, true, List, [], ◌∷◌, ◌++◌, None, Result}
use Rattle.std.specs.Prelude.{Ok}
use Rattle.std.specs.Prelude.{Err}
use Rattle.std.specs.List.{All}
use Rattle.mbdc_change.specs.State.{State}
use Rattle.dc_core.specs.Core.{Core, present, session_of}
use Rattle.dc_core.specs.Event.{Event, Answer, starts, asks, hears, commits, started, asked, heard}
use Rattle.dc_core.specs.Event.{committed, replied, unread, unstored, uncommitted}
use Rattle.dc_core.specs.Step.{next}
use Rattle.dc_core.specs.Transcript.{Turn}
use Rattle.dc_core.specs.declared.fault.CommitFault.{CommitFault}
use Rattle.dc_core.specs.declared.fault.HearFault.{HearFault}
use Rattle.dc_core.specs.declared.line_heard.LineHeard.{LineHeard}
use Rattle.dc_core.specs.declared.line_heard.LineHeard.TheVariants.{Accepted}
use Rattle.mbdc_poll.specs.Happening.{Happening, does, tells, newest_serial, newest_bodies, newest_last}
use Rattle.mbdc_poll.specs.declared.event.Event.{Event as Told}
use Rattle.mbdc_poll.specs.declared.event.Event.TheVariants.{Read as was_read, Failed as has_failed}
use Rattle.mbdc_poll.specs.declared.event.Event.TheVariants.{Refused as was_refused, Lost as is_lost}
use Rattle.mbdc_poll.specs.declared.event.Event.TheVariants.{Late as came_late, End as has_ended}

-- ---- whether something is pending

-- The last commit after the last accepted telegram: it returned a number; no commit followed; or it
-- returned a fault. A line of the office is judged after a commit of its own, so this applies to
-- any run.
pub data Store : Type 0 where
  all_kept : Store
  some_wait : Store
  unkept : Store

abbrev pub behind_answer : Store → Answer → Store
behind_answer store (heard (Ok (Accepted number more))) = some_wait
behind_answer store (committed (Ok count)) = all_kept
behind_answer store (committed (Err fault)) = unkept
behind_answer store (replied unread) = store
behind_answer store (replied (unstored fault)) = unkept
behind_answer store (replied (uncommitted change fault)) = unkept
behind_answer store (replied reply) = all_kept
behind_answer store answer = store

abbrev pub store_behind : Store → List Turn → Store
store_behind store [] = store
store_behind store (turn ∷ turns) = store_behind (behind_answer store turn.1) turns

-- nothing is pending, unless a commit returned a fault
abbrev pub IsSettled : Store → Type 0
IsSettled all_kept = Unit {0}
IsSettled some_wait = ⊥
IsSettled unkept = Unit {0}

-- ---- how many telegrams are pending

-- maximum number of pending telegrams
abbrev pub most_pending : ℕ
most_pending = 4

-- a telegram is accepted, which is pending then
abbrev pub is_accepted : Result LineHeard HearFault → Bool
is_accepted (Ok (Accepted number more)) = true
is_accepted (Ok answer) = false
is_accepted (Err fault) = false

abbrev pub waiting_after : ℕ → Answer → ℕ
waiting_after waiting (heard (Ok (Accepted number more))) = waiting + 1
waiting_after waiting (committed (Ok count)) = 0
waiting_after waiting answer = waiting

-- An answer is received only if fewer than the maximum are pending.
abbrev pub FindsRoom : ℕ → Event → Type 0
FindsRoom waiting (hears line at bytes) = waiting < most_pending
FindsRoom waiting event = Unit {0}

-- EACH ANSWER FINDS ROOM: this many telegrams are pending before these turns, and that many after
-- them.
abbrev pub AllFindRoom : ℕ → List Turn → ℕ → Type 0
AllFindRoom waiting [] last = waiting ≡ last
AllFindRoom waiting (turn ∷ turns) last =
    FindsRoom waiting turn.0 × AllFindRoom (waiting_after waiting turn.1) turns last

-- ---- a round

-- its first half: lines begin and are asked
abbrev pub IsAskingBy : Event → Answer → Type 0
IsAskingBy (starts line meter) (started answer) = Unit {0}
IsAskingBy (asks line) (asked request) = Unit {0}
IsAskingBy event answer = ⊥

abbrev pub IsAsking : Turn → Type 0
IsAsking turn = IsAskingBy turn.0 turn.1

-- its second half: answers are received, at one time, and if the maximum number of telegrams is
-- pending, they are committed
abbrev pub IsHearingBy : ℕ → Event → Answer → Type 0
IsHearingBy moment (hears line at bytes) (heard answer) = at ≡ moment
IsHearingBy moment commits (committed (Ok count)) = Unit {0}
IsHearingBy moment event answer = ⊥

abbrev pub IsHearing : ℕ → Turn → Type 0
IsHearing moment turn = IsHearingBy moment turn.0 turn.1

-- Answers are received, and each finds room. This many telegrams are pending after them, and none
-- before.
pub record AreHeard (moment waiting : ℕ) (turns : List Turn) : Type 0 where
  pub are_hearing : All (IsHearing moment) turns
  pub find_room : AllFindRoom 0 turns waiting

-- one commit
abbrev pub IsCommit : List Turn → Type 0
IsCommit turns = (stored : Result ℕ CommitFault) × (turns ≡ (commits, committed stored) ∷ [])

-- A ROUND: first its lines begin and send requests, then answers are taken, each with fewer than the
-- maximum of telegrams pending, and then all that was accepted is committed.
pub record IsRound (moment : ℕ) (turns : List Turn) : Type 0 where
  pub asking : List Turn
  pub hearing : List Turn
  pub last : List Turn
  pub waiting : ℕ
  pub turns_are : turns ≡ asking ++ (hearing ++ last)
  pub are_asking : All IsAsking asking
  pub are_heard : AreHeard moment waiting hearing
  pub is_commit : IsCommit last

-- One commit, and then round after round, as long as all is kept. In each round time passes after
-- the requests, and the answers get the time stamp that the timer returns then.
pub data InRounds {T : Type 0} (told : T → ℕ → T → Type 0) (passes : T → Bool → T → Type 0)
    : T → List Turn → T → Type 0 where
  at_first : {first : T} {turns : List Turn} → IsCommit turns
      → InRounds told passes first turns first
  and_round : {first old passed last : T} {slept : Bool} {moment : ℕ} {turns more : List Turn}
      → InRounds told passes first turns old → store_behind some_wait turns ≡ all_kept
      → passes old slept passed → told passed moment last
      → IsRound moment more → InRounds told passes first (turns ++ more) last

-- ---- the events

-- the reading of an event is the newest one of its meter in the register, and the bodies and the last part are that reading's
abbrev pub IsNewest : State → Told → Type 0
IsNewest state (was_read meter serial parts last) =
    (serial ≡ newest_serial meter state) × (parts ≡ newest_bodies meter state)
    × (last ≡ newest_last meter state)
IsNewest state (has_failed at meter why brought) = Unit {0}
IsNewest state (was_refused meter refusal) = Unit {0}
IsNewest state (is_lost line) = Unit {0}
IsNewest state (came_late line answers) = Unit {0}
IsNewest state (has_ended read failed) = Unit {0}

-- Each event comes after the commit, and each reading in it is the newest one of its meter then.
abbrev pub AreTrue : Core → Store → List Happening → Type 0
AreTrue core store [] = Unit {0}
AreTrue core store (does turn ∷ more) =
    AreTrue (next core turn.0 turn.1) (behind_answer store turn.1) more
AreTrue core store (tells line told ∷ more) =
    IsSettled store × IsNewest (present core) told × AreTrue core store more

-- ---- where a run may begin

-- nothing is pending, nothing has stopped, and nobody is on a line
pub record IsIdle (core : Core) : Type 0 where
  pub empty : core.pending ≡ []
  pub running : core.stopped ≡ false
  pub nobody : (line : ℕ) → session_of core line ≡ None
