-- Which state a concentrator is in, and what the images of its disk stand for (this product).
use Rattle.std.specs.Prelude.{◌≡◌, ℕ, ◌≤◌, false, List, Option, length}
use Rattle.dc_sectors.specs.Disk.{Image, IsImage}
use Rattle.dc_sectors.specs.declared.device.Disk.{Ghosts}
use Rattle.mbdc_change.specs.State.{State, Held}
use Rattle.mbdc_change.specs.declared.change.Change.{Change}
use Rattle.mbdc_change.specs.History.{AcceptsAll}
use Rattle.mbdc_change.specs.Spelled.{SpellsChanges}
use Rattle.dc_readout.specs.Summary.{Summary}
use Rattle.mbdc_log.specs.Halves.{half_of, half_len_of, budget_of}
use Rattle.dc_core.specs.PendingImages.{Stands, StandsForFront, Keeps}
use Rattle.mbdc_log.specs.Store.{Opened}
use Rattle.dc_core.specs.Waiting.{Waiting}
use Rattle.dc_core.specs.Core.{Core, present}

-- The image stands for the state after a prefix of the changes that leaves out none of the first ones, which are
-- promised.
pub record StandsForPromised (half_len : ℕ) (state : State) (promised : ℕ) (changes : List Change)
    (image : Image) : Type 0 where
  pub front : StandsForFront half_len state changes image
  pub all_promised : promised ≤ front.count

-- the parts of a concentrator
pub record Machine (D : Type 0) : Type 0 where
  pub store : Opened D
  pub house : Held
  pub waiting : Waiting
  pub lines : List (Option Summary)

-- its register's budget is that of its image
abbrev pub IsWithin : {D : Type 0} → ℕ → Machine D → Type 0
IsWithin sectors machine = machine.house.budget ≡ budget_of (half_len_of sectors)

-- THE CONCENTRATOR IS IN THIS STATE, after an opening that left the disk as `origin`. In memory: its register is what
-- is present, the waiting bytes spell what is pending and is accepted after what is committed, and its lines are
-- those. Where the disk's answers until `origin` kept the disk model: each image that a stop may leave stands for what
-- is committed and a prefix of what is pending, and where the store isn't stopped, for what is committed.
pub record IsAt {D : Type 0} (g : Ghosts D) (origin : D) (machine : Machine D)
    (core : Core) : Type 0 where
  pub house_is : machine.house.state ≡ present core
  pub spells : SpellsChanges machine.waiting.bytes core.pending
  pub count_is : machine.waiting.count ≡ length core.pending
  pub accepted : AcceptsAll machine.house.budget core.committed core.pending
  pub lines_are : machine.lines ≡ core.lines
  pub stopped_is : machine.store.is_stopped ≡ core.stopped
  pub keeps : g.keeps origin → core.stopped ≡ false → Keeps g machine.store core.committed
  pub stands : g.keeps origin → core.stopped ≡ false → (image : Image)
      → IsImage (g.choices machine.store.disk) image
      → Stands (half_of g machine.store.disk) core.committed image
  pub leaves : g.keeps origin → (image : Image) → IsImage (g.choices machine.store.disk) image
      → StandsForFront (half_of g machine.store.disk) core.committed core.pending image
