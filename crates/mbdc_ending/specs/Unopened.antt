-- An image that isn't opened (this product).
use Rattle.std.specs.Prelude.{◌≡◌, ◌≢◌, ◌≤◌}
use Rattle.mbdc_io.specs.Failures.{HasRisen}
use Rattle.dc_sectors.specs.Disk.{IsImage}
use Rattle.dc_sectors.specs.Runs.{LeavesOnly}
use Rattle.dc_sectors.specs.declared.device.Disk.{Ghosts}
use Rattle.mbdc_log.specs.Halves.{fewest_sectors, half_of}
use Rattle.mbdc_log.specs.Refusal.{TellsOfImage}
use Rattle.mbdc_log.specs.declared.fault.OpenFault.{OpenFault}
use Rattle.mbdc_log.specs.declared.fault.OpenFault.TheVariants.{Worn, Device}
use Rattle.dc_core.specs.PendingImages.{IsRefused, EachStands, StandsForOne}

-- Where the disk keeps the disk model, each image that it may hold stands for some state.
abbrev pub Stands : {D : Type 0} → Ghosts D → D → Type 0
Stands g disk = g.keeps disk → EachStands (half_of g disk) (g.choices disk)

-- THE IMAGE ISN'T OPENED, and this is left of its disk. The fault is that of the store; for an image
-- that stands for a state it is an exhausted counter. Unless the device failed, and counted that,
-- nothing was written: the disk reads as before, and so does each image of every moment. A crash
-- leaves what stands for a state that one of the disk's images stood for.
pub record IsUnopened {D : Type 0} (g : Ghosts D) (disk left : D) (fault : OpenFault) : Type 0 where
  pub refused : g.keeps left → fewest_sectors ≤ g.sectors disk
      → IsRefused (half_of g disk) (g.reads disk) fault
  pub premise : g.keeps left → fewest_sectors ≤ g.sectors disk
      → EachStands (half_of g disk) (g.choices disk) → TellsOfImage fault → fault ≡ Worn
  pub unwritten : fault ≢ Device → g.reads left ≡ g.reads disk
  pub spares : fault ≢ Device → LeavesOnly g disk left (IsImage (g.choices disk))
  pub device : fault ≡ Device → HasRisen (g.failures disk) (g.failures left)
  pub any_moment : g.keeps left → EachStands (half_of g disk) (g.choices disk)
      → LeavesOnly g disk left (StandsForOne (half_of g disk) (g.choices disk))
