-- A concentrator that was opened on a disk (this product).
use Rattle.std.specs.Prelude.{◌≡◌, List}
use Rattle.mbdc_change.specs.State.{State}
use Rattle.mbdc_log.specs.Halves.{budget_of, half_of}
use Rattle.dc_core.specs.PendingImages.{Reads, StandsForOne}
use Rattle.dc_core.specs.Headline.{IsOpened, WasStopped, IsKept}
use Rattle.dc_core.specs.Images.{Machine}
use Rattle.dc_core.specs.Transcript.{Turn}
use Rattle.dc_sectors.specs.declared.device.Disk.{Ghosts}
use Rattle.dc_sectors.specs.Runs.{LeavesOnly}

-- The concentrator that was opened on the disk has the state that the image reads as. A crash
-- within the opening leaves an image that stands for a state that one of the disk's images stood
-- for. If the disk is what was left of an earlier life that crashed, the state is what is kept of
-- that life.
pub record IsOpenedOn {D : Type 0} (g : Ghosts D) (disk : D) (state : State)
    (first : Machine D) : Type 0 where
  pub budget_is : first.house.budget ≡ budget_of (half_of g disk)
  pub count : g.sectors first.store.disk ≡ g.sectors disk
  pub at : IsOpened g state first
  pub reads_as : g.keeps first.store.disk → Reads (half_of g disk) state (g.reads disk)
  pub leaves : g.keeps first.store.disk
      → LeavesOnly g disk first.store.disk (StandsForOne (half_of g disk) (g.choices disk))
  pub kept : (was : State) (done more : List Turn) → WasStopped g was done more disk
      → g.keeps first.store.disk → IsKept was done more state
