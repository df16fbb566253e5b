-- The look at an image before a command opens it to write it (this product).
use Rattle.std.specs.Prelude.{◌≡◌, ◌⊎◌, ◌≤◌, ◌<◌, ℕ, Some}
use Rattle.dc_sectors.specs.Disk.{IsImage}
use Rattle.dc_sectors.specs.Runs.{IsSettled, LeavesOnly}
use Rattle.dc_sectors.specs.declared.device.Disk.{Ghosts}
use Rattle.mbdc_ending.specs.Outcome.{opening_ended}
use Rattle.mbdc_ending.specs.Unopened.{Stands}
use Rattle.mbdc_ending.specs.declared.ending.Ending.{Ending}
use Rattle.mbdc_ending.specs.declared.ending.Ending.TheVariants.{Behind}
use Rattle.mbdc_io.specs.Failures.{HasRisen}
use Rattle.mbdc_log.specs.Halves.{fewest_sectors, half_of}
use Rattle.mbdc_log.specs.declared.fault.OpenFault.{OpenFault}
use Rattle.mbdc_log.specs.declared.fault.OpenFault.TheVariants.{Device, NotImage}
use Rattle.dc_core.specs.PendingImages.{IsBehindAt, IsUnread}

-- THE IMAGE MAY BE OPENED: what it reads as is durable, and each image that a crash may leave from here on stands for a
-- state, whatever wrote the image and whatever became of it since.
pub record IsReady {D : Type 0} (g : Ghosts D) (disk ready : D) : Type 0 where
  pub stands : Stands g ready
  pub enough : fewest_sectors ≤ g.sectors ready
  pub same : g.reads ready ≡ g.reads disk
  pub durable : IsSettled g ready
  pub spares : LeavesOnly g disk ready (IsImage (g.choices disk))
  pub before : g.keeps ready → g.keeps disk

-- it reads as no state
pub record IsNoState {D : Type 0} (g : Ghosts D) (disk left : D) (ending : Ending) : Type 0 where
  pub fault : OpenFault
  pub ends : ending ≡ opening_ended fault
  pub small : g.sectors disk < fewest_sectors → fault ≡ NotImage
  pub device : fault ≡ Device → HasRisen (g.failures disk) (g.failures left)
  pub unread : fewest_sectors ≤ g.sectors disk → g.keeps left
      → IsUnread (half_of g disk) (g.reads disk) fault

-- it reads as a state, but this sector is the first that is ahead of it
pub record IsOvertaken {D : Type 0} (g : Ghosts D) (disk left : D) (ending : Ending) : Type 0 where
  pub sector : ℕ
  pub ends : ending ≡ Behind sector
  pub behind : g.keeps left → IsBehindAt (half_of g disk) (Some sector) (g.reads disk)

-- THE IMAGE ISN'T OPENED, and the ending says why. Nothing is written.
pub record IsKeptShut {D : Type 0} (g : Ghosts D) (disk left : D) (ending : Ending) : Type 0 where
  pub why : IsNoState g disk left ending ⊎ IsOvertaken g disk left ending
  pub same : g.reads left ≡ g.reads disk
  pub spares : LeavesOnly g disk left (IsImage (g.choices disk))

-- A COMMAND THAT WRITES AN IMAGE, from the file's disk on: it goes on from the disk that is ready so, or it has ended.
abbrev pub Guards : {D : Type 0} → Ghosts D → (disk left : D) → Ending → (D → Type 0) → Type 0
Guards {D} g disk left ending goes_on =
    ((ready : D) × IsReady g disk ready × goes_on ready) ⊎ IsKeptShut g disk left ending
