-- What a poll does on all lines (this product).
use Rattle.std.specs.Prelude.{◌≡◌, ◌≢◌, ◌⊎◌, ℕ, zero, suc, ◌+◌, ◌-◌, ◌<◌, ◌≤◌, List, [], ◌∷◌, ◌++◌}
use Rattle.std.specs.Prelude.{length, sum, map, slice_index_or, Result, Ok, Err, Bool, true, false}
use Rattle.std.specs.List.{All}
use Rattle.mbdc_change.specs.State.{State}
use Rattle.dc_core.specs.Core.{Core, opened}
use Rattle.dc_core.specs.Event.{commits, committed}
use Rattle.dc_core.specs.declared.fault.CommitFault.{CommitFault}
use Rattle.dc_core.specs.Images.{Machine}
use Rattle.dc_core.specs.Transcript.{Turn, leads}
use Rattle.mbdc_poll.specs.Bus.{Bus}
use Rattle.dc_core.specs.Went.{BehindAnyRun, Went}
use Rattle.mbdc_poll.specs.Happening.{Happening, does, tells, happened_on, happened_events}
use Rattle.mbdc_poll.specs.Happening.{happened_turns, reads_in}
use Rattle.mbdc_poll.specs.Happening.{failures_in, newest_serial, newest_bodies, newest_last}
use Rattle.mbdc_poll.specs.declared.brought.Brought.{Brought}
use Rattle.mbdc_poll.specs.declared.end.End.{End}
use Rattle.mbdc_poll.specs.declared.end.End.TheVariants.{Read, Failed, Refused}
use Rattle.mbdc_poll.specs.declared.outcome.Counts.{Counts}
use Rattle.mbdc_poll.specs.declared.event.Event.{Event as Told}
use Rattle.mbdc_poll.specs.declared.event.Event.TheVariants.{Read as was_read, Failed as has_failed}
use Rattle.mbdc_poll.specs.declared.event.Event.TheVariants.{Refused as was_refused}
use Rattle.mbdc_poll.specs.declared.event.Event.TheVariants.{Late as came_late}
use Rattle.dc_sectors.specs.declared.device.Disk.{Ghosts}
use Rattle.mbdc_poll.specs.Keeping.{AllFindRoom, AreHeard, AreTrue, IsHearing, IsSettled, Store}
use Rattle.mbdc_poll.specs.Keeping.{most_pending}
use Rattle.mbdc_poll.specs.Missed.{Brings}
use Rattle.mbdc_poll.specs.Queue.{Goes}
use Rattle.mbdc_poll.specs.Talking.{Talks}
use Rattle.mbdc_poll.specs.Station.{IsAfter, part_of, stored_by, talk_of}
use Rattle.mbdc_poll.specs.declared.phase.Phase.TheVariants.{Free}
use Rattle.mbdc_poll.specs.declared.phase.Request.TheVariants.{Quiet}
use Rattle.mbdc_poll.specs.declared.station.Station.{Station}

-- Such things happen, and their turns are run, after the turns before. What they are may speak of where those led.
pub record Happens {D : Type 0} (g : Ghosts D) (origin : D) (state : State) (before : List Turn)
    (such : Core → List Happening → Type 0) (first new : Machine D) : Type 0 where
  pub happened : List Happening
  pub are_such : such (leads (opened state) before) happened
  pub went : Went g origin first.house.budget state before (happened_turns happened) first new

-- after any run, such things happen
abbrev pub Runs : {D : Type 0} → Ghosts D → (Core → List Happening → Type 0) → Machine D → Machine D
    → Type 0
Runs g such first new = BehindAnyRun g first
    (λ origin state before. Happens g origin state before such first new)

-- ---- one line's part

-- A LINE GOES ON by what happens on it: its queue does, this is the talk on its bus, and what its tries brought.
pub record LineGoes {B : Type 0} (g : Bus B) (tries line : ℕ)
    (old new : Station B) (happened : List Happening) : Type 0 where
  pub queue : Goes tries line (part_of old) happened (part_of new)
  pub talk : Talks g line (talk_of old) happened (talk_of new)
  pub brought : Brings line old.brought happened new.brought

-- this happens on this line alone, which goes on by it
pub record Moves {B : Type 0} (g : Bus B) (tries line : ℕ)
    (old new : Station B) (happened : List Happening) : Type 0 where
  pub goes : LineGoes g tries line old new (happened_on line happened)
  pub alone : (other : ℕ) → other ≢ line → happened_on other happened ≡ []

-- ---- all lines

abbrev pub IsCommitTurn : Happening → Type 0
IsCommitTurn (does turn) = turn.0 ≡ commits
IsCommitTurn (tells line told) = ⊥

-- Line k + 1 is that of the station at k: each goes on by what happens on it, and on another there are commits alone.
pub record Rounds {B : Type 0} (g : Bus B) (tries : ℕ)
    (olds news : List (Station B)) (happened : List Happening) : Type 0 where
  pub goes : (k : ℕ) (d : Station B) → k < length olds
      → LineGoes g tries (k + 1) (slice_index_or olds k d) (slice_index_or news k d)
      (happened_on (k + 1) happened)
  pub alone : (other : ℕ) → ((k : ℕ) → k < length olds → other ≢ k + 1)
      → All IsCommitTurn (happened_on other happened)

-- ---- what happens that isn't an event

abbrev pub AreTurns : List Happening → Type 0
AreTurns [] = Unit {0}
AreTurns (does turn ∷ more) = AreTurns more
AreTurns (tells line told ∷ more) = ⊥

-- on this line alone turns are taken, each of them such a one, and the line goes on by them
pub record Steps {B : Type 0} (g : Bus B) (tries line : ℕ)
    (such : Turn → Type 0) (old new : Station B) (happened : List Happening) : Type 0 where
  pub moves : Moves g tries line old new happened
  pub are_such : All such (happened_turns happened)
  pub are_turns : AreTurns happened

-- the same on all lines, where all turns together are such
pub record AllSteps {B : Type 0} (g : Bus B) (tries : ℕ) (such : List Turn → Type 0)
    (olds news : List (Station B)) (happened : List Happening) : Type 0 where
  pub rounds : Rounds g tries olds news happened
  pub are_such : such (happened_turns happened)
  pub are_turns : AreTurns happened

-- a commit with this result
abbrev pub IsStoredAs : Result (Unit {0}) CommitFault → List Turn → Type 0
IsStoredAs (Ok done) turns = (count : ℕ) × (turns ≡ (commits, committed (Ok count)) ∷ [])
IsStoredAs (Err fault) turns = turns ≡ (commits, committed (Err fault)) ∷ []

-- a commit's result without its count
abbrev pub uncounted : Result ℕ CommitFault → Result (Unit {0}) CommitFault
uncounted (Ok count) = Ok tt
uncounted (Err fault) = Err fault

-- a telegram more is pending, or not
abbrev pub and_accepted : ℕ → Bool → ℕ
and_accepted waiting false = waiting
and_accepted waiting true = waiting + 1

-- On this line an answer is received, or none is complete yet. If fewer telegrams than the maximum
-- are pending, it finds room. Whether it is accepted.
pub record HearsOne {B : Type 0} (g : Bus B) (tries line moment : ℕ) (accepted : Bool)
    (old new : Station B) (happened : List Happening) : Type 0 where
  pub steps : Steps g tries line (IsHearing moment) old new happened
  pub finds_room : (waiting : ℕ) → waiting < most_pending
      → AllFindRoom waiting (happened_turns happened) (and_accepted waiting accepted)

-- A commit, where one was due: the numbers of telegrams pending before and after it.
abbrev pub IsRoom : ℕ → Result ℕ CommitFault → List Turn → Type 0
IsRoom waiting (Ok now) turns =
    ((turns ≡ []) × (now ≡ waiting)) ⊎ (IsStoredAs (Ok tt) turns × (now ≡ 0))
IsRoom waiting (Err fault) turns = IsStoredAs (Err fault) turns

-- answers are received, and the last turn is the commit with this result
abbrev pub EndsInCommit : ℕ → Result (Unit {0}) CommitFault → List Turn → Type 0
EndsInCommit moment stored turns = (front last : List Turn) × (waiting : ℕ)
    × (turns ≡ front ++ last) × AreHeard moment waiting front × IsStoredAs stored last

-- answers are received; if a commit among them returned a fault, that is the last turn
abbrev pub AreHeardAs : ℕ → Result (Unit {0}) CommitFault → List Turn → Type 0
AreHeardAs moment (Ok done) turns = (waiting : ℕ) × AreHeard moment waiting turns
AreHeardAs moment (Err fault) turns = EndsInCommit moment (Err fault) turns

abbrev pub IsStored : {B : Type 0} → Result ℕ CommitFault → Station B → Station B → Type 0
IsStored stored old new =
    IsAfter (stored_by old.left.now old.due old.pass old.phase stored) old.bus old.request old.said
    new × (new.brought ≡ old.brought)

-- what becomes of each line by a commit
pub record AreStored {B : Type 0} (stored : Result ℕ CommitFault)
    (olds news : List (Station B)) : Type 0 where
  pub count : length news ≡ length olds
  pub each : (k : ℕ) (d : Station B) → k < length olds
      → IsStored stored (slice_index_or olds k d) (slice_index_or news k d)

-- number of lines
abbrev pub most_lines : ℕ
most_lines = 8

-- what one count says of each line afterwards is so much less than what the other said before
abbrev pub EachFewer : {B : Type 0} → (Station B → ℕ) → (Station B → ℕ) → ℕ
    → List (Station B) → List (Station B) → Type 0
EachFewer {B} before behind count olds news = (k : ℕ) (d : Station B) → k < length olds
    → behind (slice_index_or news k d) ≤ before (slice_index_or olds k d) - count

-- a queue has no more meters than a register
abbrev pub HasFew : {B : Type 0} → Station B → Type 0
HasFew station = length station.left.now ≤ 65535

-- no meter is left, and the event of the last one's end came
abbrev pub IsOver : {B : Type 0} → Station B → Type 0
IsOver station = (station.left.now ≡ []) × (station.phase ≡ Free)

-- no request is out without an answer
abbrev pub IsSilent : {B : Type 0} → Station B → Type 0
IsSilent station = station.request ≡ Quiet

-- no meter was started
pub record IsFresh {B : Type 0} (station : Station B) : Type 0 where
  pub first : station.pass ≡ 1
  pub all : station.due ≡ length station.left.now
  pub free : station.phase ≡ Free
  pub quiet : station.request ≡ Quiet

abbrev pub meters_left : {B : Type 0} → List (Station B) → ℕ
meters_left {B} stations = sum (map (λ (s : Station B). length s.left.now) stations)

-- ---- the events

-- the event of an end on this line, by the register and what the tries of the readout brought
abbrev pub told_of : State → ℕ → Brought → End → Told
told_of state line brought (Read meter) =
    was_read meter (newest_serial meter state) (newest_bodies meter state) (newest_last meter state)
told_of state line brought (Failed meter why) = has_failed line meter why brought
told_of state line brought (Refused meter refusal) = was_refused meter refusal

abbrev pub counted : End → Counts → Counts
counted (Read meter) outcome = record outcome { read = outcome.read + 1 }
counted (Failed meter why) outcome = record outcome { failed = outcome.failed + 1 }
counted (Refused meter refusal) outcome = record outcome { failed = outcome.failed + 1 }

-- Events come, each of them true, after a commit, and no turn is taken. The teller took them.
pub record AreTold (took : List Told → Type 0) (was now : Counts) (core : Core)
    (happened : List Happening)
    : Type 0 where
  pub events : took (happened_events happened)
  pub no_turns : happened_turns happened ≡ []
  pub are_true : (store : Store) → IsSettled store → AreTrue core store happened
  pub read : now.read ≡ was.read + reads_in happened
  pub failed : now.failed ≡ was.failed + failures_in happened

-- of one line
pub record Tells {B : Type 0} (g : Bus B) (line : ℕ) (old new : Station B) (took : List Told → Type 0)
    (was now : Counts) (core : Core) (happened : List Happening) : Type 0 where
  pub moves : (tries : ℕ) → Moves g tries line old new happened
  pub told : AreTold took was now core happened

-- of all
pub record AllTells {B : Type 0} (g : Bus B) (olds news : List (Station B))
    (took : List Told → Type 0)
    (was now : Counts) (core : Core) (happened : List Happening) : Type 0 where
  pub rounds : (tries : ℕ) → Rounds g tries olds news happened
  pub told : AreTold took was now core happened

-- the number of late answers that were dropped on a line, if any
abbrev pub late_on : ℕ → ℕ → List Told
late_on line zero = []
late_on line (suc n) = came_late line (suc n) ∷ []

abbrev pub lates_from : {B : Type 0} → Bus B → ℕ → List (Station B) → List Told
lates_from g line [] = []
lates_from g line (station ∷ stations) =
    late_on line (g.late station.bus) ++ lates_from g (line + 1) stations
