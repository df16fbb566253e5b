-- What `fit`, `swap`, `move` and `out` do to an image (this product): the list or the command is planned on the register
-- that the image stands for, and all of it is written at once, or nothing of it.
use Rattle.std.specs.Prelude.{◌≡◌, ◌⊎◌, List, if◌then◌else◌}
use Rattle.mbdc_change.specs.State.{State, Held}
use Rattle.mbdc_change.specs.History.{after, AcceptsAll}
use Rattle.mbdc_change.specs.Spelled.{SpellsChanges}
use Rattle.mbdc_change.specs.declared.change.Change.{Change}
use Rattle.dc_sectors.specs.declared.device.Disk.{Ghosts}
use Rattle.dc_sectors.specs.Runs.{IsSettled, LeavesOnly}
use Rattle.mbdc_fit.specs.declared.fault.FitFault.{FitFault}
use Rattle.mbdc_fit.specs.declared.fault.FitFault.TheVariants.{Open, NoMemory, Disk}
use Rattle.mbdc_fit.specs.Plan.{Outcome}
use Rattle.mbdc_fit.specs.Wish.{IsMetBy}
use Rattle.mbdc_fit.specs.declared.list.wish.Wish.{Wish}
use Rattle.mbdc_log.specs.Halves.{budget_of, half_of}
use Rattle.mbdc_log.specs.Store.{Opened}
use Rattle.mbdc_log.specs.declared.fault.OpenFault.{OpenFault}
use Rattle.mbdc_log.specs.declared.fault.StoreFault.{StoreFault}
use Rattle.dc_core.specs.PendingImages.{EachStands, Keeps, Reads, Stands, StandsForEither, StandsForOne}

-- the register with all that is asked; where a row or the command is wrong it is as it was
abbrev pub fitted : Outcome → List Change → State → State
fitted plan changes state = if plan.wrong then state else after state changes

-- what is asked comes to this on a register: its plan, and the changes that the plan spells, each accepted in turn
pub record IsListed (wish : Wish) (house : Held) (plan : Outcome) (changes : List Change) : Type 0 where
  pub planned : IsMetBy wish house plan
  pub spells : SpellsChanges plan.payload changes
  pub accepted : AcceptsAll house.budget house.state changes

-- ---- an open store that keeps the register

-- the store is as it was, or a crash leaves either all of the list or nothing of it
pub record Lists {D : Type 0} (g : Ghosts D) (wish : Wish) (house : Held) (old new : Opened D) : Type 0 where
  pub plan : Outcome
  pub changes : List Change
  pub listed : IsListed wish house plan changes
  pub did : (new ≡ old) ⊎ (Keeps g old house.state → LeavesOnly g old.disk new.disk
      (StandsForEither (half_of g old.disk) house.state (fitted plan changes house.state)))

-- and all was done
pub record ListsAll {D : Type 0} (g : Ghosts D) (wish : Wish) (house : Held) (plan : Outcome) (old new : Opened D)
    : Type 0 where
  pub lists : Lists g wish house old new
  pub plan_is : plan ≡ lists.plan
  pub kept : Keeps g old house.state → Keeps g new (fitted lists.plan lists.changes house.state)

-- ---- from the disk to the disk

-- where the disk keeps the disk model, each image that it may hold stands for some state
abbrev pub IsStanding : {D : Type 0} → Ghosts D → D → Type 0
IsStanding g disk = g.keeps disk → EachStands (half_of g disk) (g.choices disk)

-- ALL OR NOTHING. The image stood for a state, and the list was planned on it. A crash at any moment leaves an image that
-- stands for a state that the disk stood for before, for this one, or for the one after the whole list.
pub record Fits {D : Type 0} (g : Ghosts D) (wish : Wish) (disk left : D) : Type 0 where
  pub state : State
  pub plan : Outcome
  pub changes : List Change
  pub reads_as : g.keeps left → Reads (half_of g disk) state (g.reads disk)
  pub listed : IsListed wish (record { state = state; budget = budget_of (half_of g disk) }) plan changes
  pub at_once : g.keeps left → LeavesOnly g disk left (λ image.
      StandsForOne (half_of g disk) (g.choices disk) image
      ⊎ StandsForEither (half_of g disk) state (fitted plan changes state) image)

-- DONE: the disk has the whole list, durably, or a row was wrong and nothing is done; the plan says which of both.
pub record FitsAll {D : Type 0} (g : Ghosts D) (wish : Wish) (plan : Outcome) (disk left : D) : Type 0 where
  pub fits : Fits g wish disk left
  pub plan_is : plan ≡ fits.plan
  pub stands : g.keeps left → Stands (half_of g disk) (fitted fits.plan fits.changes fits.state) (g.reads left)
  pub durable : g.keeps left → IsSettled g left

-- ---- the faults

-- what is stated of the reason why the image wasn't opened
abbrev pub IfOpen : FitFault → (OpenFault → Type 0) → Type 0
IfOpen (Open fault) said = said fault
IfOpen NoMemory said = Unit {0}
IfOpen (Disk fault) said = Unit {0}

-- what is stated of the reason why the image wasn't written
abbrev pub IfDisk : FitFault → (StoreFault → Type 0) → Type 0
IfDisk (Open fault) said = Unit {0}
IfDisk NoMemory said = Unit {0}
IfDisk (Disk fault) said = said fault

-- it ended before the image was written
abbrev pub IsBefore : FitFault → Type 0
IsBefore (Open fault) = Unit {0}
IsBefore NoMemory = Unit {0}
IsBefore (Disk fault) = ⊥
