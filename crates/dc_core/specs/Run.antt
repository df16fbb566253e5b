-- Events in code, and the result of a run of them (this product).
use Rattle.std.specs.Prelude.{◌≡◌, ℕ, ◌≤◌, ◌+◌, Option, None, Some, Err, List, []}
use Rattle.std.specs.Prelude.{◌∷◌, ◌++◌, map, length}
use Rattle.mbdc_io.specs.Failures.{HasRisen}
use Rattle.mbdc_io.specs.Written.{PutsInto, Wrote}
use Rattle.mbdc_io.specs.declared.stream.Sink.{Ghosts as SinkGhosts}
use Rattle.dc_sectors.specs.Disk.{Image, IsImage}
use Rattle.dc_sectors.specs.declared.device.Disk.{Ghosts}
use Rattle.dc_sectors.specs.Runs.{LeavesOnly}
use Rattle.mbdc_change.specs.Fields.{last_moment}
use Rattle.mbdc_change.specs.State.{State}
use Rattle.mbdc_log.specs.Halves.{half_of}
use Rattle.dc_core.specs.PendingImages.{StandsForFront}
use Rattle.dc_upload.specs.declared.line.OfficeLine.{OfficeLine}
use Rattle.dc_core.specs.declared.fault.CommitFault.{CommitFault}
use Rattle.dc_core.specs.declared.fault.CommitFault.TheVariants.{Device, Worn, Stopped}
use Rattle.dc_core.specs.declared.event.Event as declared
use Rattle.dc_core.specs.declared.event.Event.TheVariants.{Start, Ask, Hear, Commit, Office}
use Rattle.dc_core.specs.Core.{Core, opened}
use Rattle.dc_core.specs.Event.{Event, Answer, Reply, starts, asks, hears, commits, offices}
use Rattle.dc_core.specs.Event.{committed, replied, unstored, uncommitted}
use Rattle.dc_core.specs.Step.{MayAnswer, after_answer, May, next}
use Rattle.dc_core.specs.Transcript.{Turn, leads, IsChain, taken_with, accepted_by, accepted_in}
use Rattle.dc_core.specs.Promised.{promised_in, HoldsFront}
use Rattle.dc_core.specs.Known.{KnowsItsMeters}
use Rattle.dc_core.specs.Text.{replied_text, answer_text, run_text}
use Rattle.dc_core.specs.Images.{Machine, IsAt, StandsForPromised}
use Rattle.dc_core.specs.Writing.{IsWornFor}

abbrev pub event_of : declared.Event → Event
event_of (Start line meter) = starts line meter
event_of (Ask line) = asks line
event_of (Hear line moment answer) = hears line moment answer.now
event_of Commit = commits
event_of (Office text) = offices text.now

-- the time stamp of an answer is one that a change may have
abbrev pub IsInTime : declared.Event → Type 0
IsInTime (Hear line moment answer) = moment ≤ last_moment
IsInTime (Start line meter) = Unit {0}
IsInTime (Ask line) = Unit {0}
IsInTime Commit = Unit {0}
IsInTime (Office text) = Unit {0}

-- the fault of a commit that an answer names
abbrev pub fault_in : Answer → Option CommitFault
fault_in (committed (Err fault)) = Some fault
fault_in (replied (unstored fault)) = Some fault
fault_in (replied (uncommitted change fault)) = Some fault
fault_in answer = None

-- It shows: the disk has counted a failure, or the store has no counter left with which to write what is pending.
abbrev pub IsShown : {D : Type 0} → Ghosts D → Machine D → Machine D → Option CommitFault → Type 0
IsShown g old new None = Unit {0}
IsShown g old new (Some Device) = HasRisen (g.failures old.store.disk) (g.failures new.store.disk)
IsShown g old new (Some Worn) = IsWornFor (g.sectors new.store.disk) new.store (length new.waiting.bytes)
IsShown g old new (Some Stopped) = Unit {0}

-- ONE LINE OF THE OFFICE ANSWERED in a state in which nothing waits.
pub record Answered {D : Type 0} (g : Ghosts D) (origin : D) (budget : ℕ)
    (core : Core) (line : OfficeLine) (wrote : List ℕ → Type 0) (old new : Machine D) : Type 0 where
  pub reply : Reply
  pub may : MayAnswer budget core line reply
  pub text : wrote (replied_text reply)
  pub at : IsAt g origin new (after_answer core reply)
  pub failed : IsShown g old new (fault_in (replied reply))
  pub leaves : g.keeps origin → LeavesOnly g old.store.disk new.store.disk
      (StandsForFront (half_of g old.store.disk) core.committed (taken_with reply))

-- ONE EVENT in a state: an answer that it may have, its text is what was written, and the concentrator is in the next
-- state. A crash at any moment of it leaves what is committed and a prefix of the pending changes and of what it
-- accepted.
pub record Turned {D : Type 0} (g : Ghosts D) (origin : D) (budget : ℕ)
    (core : Core) (event : Event) (wrote : List ℕ → Type 0) (old new : Machine D) : Type 0 where
  pub answer : Answer
  pub may : May budget core event answer
  pub text : wrote (answer_text answer)
  pub at : IsAt g origin new (next core event answer)
  pub failed : IsShown g old new (fault_in answer)
  pub leaves : g.keeps origin → LeavesOnly g old.store.disk new.store.disk
      (StandsForFront (half_of g old.store.disk) core.committed
      (core.pending ++ accepted_by core event answer))

-- ONE TURN, machine to machine: the event may have this answer, and the concentrator is in the next state. A crash at
-- any moment of it leaves what is committed and a prefix of the pending changes and of what it accepted.
pub record Did {D : Type 0} (g : Ghosts D) (origin : D) (budget : ℕ)
    (core : Core) (turn : Turn) (old new : Machine D) : Type 0 where
  pub may : May budget core turn.0 turn.1
  pub at : IsAt g origin new (next core turn.0 turn.1)
  pub count : g.sectors new.store.disk ≡ g.sectors old.store.disk
  pub failed : IsShown g old new (fault_in turn.1)
  pub leaves : g.keeps origin → LeavesOnly g old.store.disk new.store.disk
      (StandsForFront (half_of g old.store.disk) core.committed
      (core.pending ++ accepted_by core turn.0 turn.1))

-- THESE TURNS, machine to machine, one after the other, after an opening that left the disk as `origin`
abbrev pub DidAll : {D : Type 0} → Ghosts D → D → ℕ → Core → List Turn → Machine D → Machine D
    → Type 0
DidAll g origin budget core [] old new = new ≡ old
DidAll {D} g origin budget core (turn ∷ turns) old new =
    (mid : Machine D) × Did g origin budget core turn old mid
    × DidAll g origin budget (next core turn.0 turn.1) turns mid new

-- A RUN of these events, after the turns that were before, in a life that began with the state: the turns make a
-- chain of steps, machine to machine, their text is what was written, and the concentrator is where the chain ends.
-- There what is promised is committed, and the register knows what comes. A crash at any moment of the run leaves an
-- image that stands for the state after a prefix of what was accepted, with all that was promised before the run; a
-- stop after it, with all that is promised then.
pub record Ran {D : Type 0} (g : Ghosts D) (origin : D) (budget : ℕ)
    (state : State) (before : List Turn) (events : List Event) (wrote : List ℕ → Type 0)
    (first new : Machine D) : Type 0 where
  pub turns : List Turn
  pub events_are : map (λ (t : Turn). t.0) turns ≡ events
  pub steps : DidAll g origin budget (leads (opened state) before) turns first new
  pub chain : IsChain budget (opened state) (before ++ turns)
  pub text : wrote (run_text turns)
  pub at : IsAt g origin new (leads (opened state) (before ++ turns))
  pub holds : HoldsFront state (before ++ turns) (leads (opened state) (before ++ turns))
  pub knows : KnowsItsMeters budget (leads (opened state) (before ++ turns))
  pub count : g.sectors new.store.disk ≡ g.sectors first.store.disk
  pub kept : promised_in before ≤ promised_in (before ++ turns)
  pub leaves : g.keeps origin → LeavesOnly g first.store.disk new.store.disk
      (StandsForPromised (half_of g first.store.disk) state (promised_in before)
      (accepted_in (opened state) (before ++ turns)))
  pub behind : g.keeps origin → (image : Image) → IsImage (g.choices new.store.disk) image
      → StandsForPromised (half_of g first.store.disk) state
      (promised_in (before ++ turns)) (accepted_in (opened state) (before ++ turns)) image

-- A PUT FAILED in the text of the last of these turns. The text of the turns before it was put, and no put failed
-- until then.
pub record FailedInLast {W : Type 0} (g : SinkGhosts W) (turns : List Turn)
    (old new : W) : Type 0 where
  pub done : List Turn
  pub last : Turn
  pub turns_are : turns ≡ done ++ last ∷ []
  pub mid : W
  pub put : PutsInto g old mid (run_text done)
  pub none_failed : g.put_failures mid ≡ g.put_failures old
  pub failed : Wrote {X = Unit {0}} {E = Unit {0}} g (Err tt) mid new (answer_text last.1)
