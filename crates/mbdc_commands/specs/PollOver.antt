-- What the command `poll` does to an image, what it prints, and how it ends (this product).
use Rattle.std.specs.Prelude.{◌≡◌, ◌⊎◌, ◌≤◌, ℕ, Bool, List, [], ◌∷◌, ◌++◌, Option}
use Rattle.std.specs.Prelude.{Result, IfOk, IfErr, IsErrOf}
use Rattle.dc_address.specs.declared.identity.Identity.{Identity}
use Rattle.mbdc_commands.specs.Bytes.{IsPrinted}
use Rattle.mbdc_commands.specs.Ending.{PollEnds}
use Rattle.mbdc_commands.specs.HostClock.{IsWarned, LetsPass, TellsTime}
use Rattle.mbdc_commands.specs.declared.timer.HostTimer.{HostTimer}
use Rattle.dc_core.specs.Core.{Core}
use Rattle.dc_sectors.specs.Runs.{LeavesOnly}
use Rattle.dc_sectors.specs.declared.device.Disk.{Ghosts}
use Rattle.mbdc_ending.specs.Fault.{IfOpen}
use Rattle.mbdc_ending.specs.declared.ending.Ending.{Ending}
use Rattle.mbdc_ending.specs.declared.fault.ProgramFault.{ProgramFault}
use Rattle.mbdc_ending.specs.declared.fault.ProgramFault.TheVariants.{Read, TooLong, Write, NoMemory, Open}
use Rattle.mbdc_io.specs.Failures.{HasRisen}
use Rattle.mbdc_log.specs.Halves.{fewest_sectors, half_of}
use Rattle.mbdc_log.specs.Refusal.{TellsOfImage}
use Rattle.mbdc_log.specs.declared.fault.OpenFault.{OpenFault}
use Rattle.mbdc_log.specs.declared.fault.OpenFault.TheVariants.{Worn, Device}
use Rattle.dc_core.specs.PendingImages.{EachStands, IsRefused, StandsForOne}
use Rattle.mbdc_poll.specs.Bus.{Bus}
use Rattle.mbdc_poll.specs.Happening.{Happening}
use Rattle.mbdc_poll.specs.ImagePoll.{ImageTurned, PlanPolled}
use Rattle.mbdc_poll.specs.declared.event.Event.{Event as Told}
use Rattle.mbdc_poll.specs.declared.outcome.Outcome.{Outcome}
use Rattle.mbdc_poll.specs.Printed.{events_as}
use Rattle.mbdc_poll.specs.declared.events.printer.Form.{Form}

-- ---- the events of a poll

-- the events so far, and one more
abbrev pub IsNext : List Told → Told → List Told → Type 0
IsNext events event more = more ≡ events ++ event ∷ []

-- The meters of a plan are read by the clock of this system, which begins with these waits. All events of that poll, in
-- order, are such.
pub record ArePolled {B W : Type 0} (R : Type 0) (bus : Bus B) (buses : List B) (only : List Identity)
    (tries : ℕ) (waits : W) (such : List Told → Type 0) (outcome : Outcome) (core : Core)
    (happened : List Happening) : Type 0 where
  pub first : HostTimer R W
  pub last : HostTimer R W
  pub begins : first.waits ≡ waits
  pub events : List Told
  pub polled : PlanPolled bus TellsTime LetsPass IsWarned IsNext buses only tries first last []
      events outcome core happened
  pub are_such : such events

-- ---- the disk

-- The image isn't opened, for this fault of the store, and this is left of its disk.
pub record IsUnpolled {D : Type 0} (g : Ghosts D) (disk left : D) (fault : OpenFault) : Type 0 where
  pub refused : g.keeps left → fewest_sectors ≤ g.sectors disk
      → IsRefused (half_of g disk) (g.reads disk) fault
  pub premise : g.keeps left → fewest_sectors ≤ g.sectors disk
      → EachStands (half_of g disk) (g.choices disk) → TellsOfImage fault → fault ≡ Worn
  pub unwritten : TellsOfImage fault → g.reads left ≡ g.reads disk
  pub device : fault ≡ Device → HasRisen (g.failures disk) (g.failures left)
  pub any_moment : g.keeps left → EachStands (half_of g disk) (g.choices disk)
      → LeavesOnly g disk left (StandsForOne (half_of g disk) (g.choices disk))

-- a poll stops where its image isn't opened, or memory ran out, and for nothing else
abbrev pub StopsPoll : ProgramFault → Type 0
StopsPoll Read = ⊥
StopsPoll TooLong = ⊥
StopsPoll Write = ⊥
StopsPoll NoMemory = Unit {0}
StopsPoll (Open fault) = Unit {0}

-- WHAT A POLL LEAVES OF A DISK each image of which stands for some state: the concentrator that was opened is left by a
-- run of such turns and events, by none where memory ran out.
pub record PollLeaves {D : Type 0} (g : Ghosts D)
    (polls : Outcome → Core → List Happening → Type 0) (disk left : D)
    (outcome : Result Outcome ProgramFault) : Type 0 where
  pub polled : IfOk outcome (λ done. ImageTurned g (polls done) disk left)
  pub starved : IsErrOf outcome NoMemory → (left ≡ disk) ⊎ ImageTurned g (λ core happened. happened ≡ []) disk left
  pub unopened : IfErr outcome (λ fault. IfOpen fault (IsUnpolled g disk left))
  pub faults : IfErr outcome StopsPoll

-- ---- the command

-- THE COMMAND `poll`, from the disk that is ready to the disk and to the ending: this came of the poll, and its whole text was printed
-- or wasn't. The ending follows from both.
pub record PollsOver {D B W O : Type 0} (R : Type 0) (g : Ghosts D) (bus : Bus B)
    (contents : O → Option (List ℕ)) (buses : List B) (only : List Identity) (tries : ℕ) (waits : W)
    (out : O) (form : Form) (image : List ℕ) (disk left : D) (ending : Ending) : Type 0 where
  pub outcome : Result Outcome ProgramFault
  pub is_printed : Bool
  pub ends : PollEnds outcome is_printed image ending
  pub leaves : PollLeaves g (ArePolled R bus buses only tries waits
      (λ events. IsPrinted contents out is_printed (events_as form events))) disk left outcome
