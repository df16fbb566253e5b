-- How an image is copied, and how that may fail (this product).
use Rattle.std.specs.Prelude.{◌≡◌, ◌⊎◌, ◌<◌, ℕ, List}
use Rattle.dc_sectors.specs.Runs.{IsSettled}
use Rattle.dc_sectors.specs.declared.device.Disk.{Ghosts}
use Rattle.mbdc_ending.specs.declared.ending.Ending.{Ending}
use Rattle.mbdc_ending.specs.declared.ending.Ending.TheVariants.{Open, Memory}
use Rattle.mbdc_ending.specs.Outcome.{IsOfFile}
use Rattle.mbdc_log.specs.declared.fault.OpenFault.TheVariants.{Device, NotImage}

-- for a fault of the file with that name, of its drive, or of memory
abbrev pub IsOfCopy : Ending → List ℕ → Type 0
IsOfCopy ending name = IsOfFile ending name ⊎ ((ending ≡ Open Device) ⊎ (ending ≡ Memory))

-- or it holds no image
abbrev pub IsUncopied : Ending → List ℕ → Type 0
IsUncopied ending name = IsOfCopy ending name ⊎ (ending ≡ Open NotImage)

-- THE IMAGE IS COPIED: what the new disk reads is durable, and each sector reads as that of the old one, whose reads up
-- to this state of it all returned what the disk model states.
pub record IsCopied {C D : Type 0} (c : Ghosts C) (g : Ghosts D) (old read : C) (new : D) : Type 0 where
  pub size : g.sectors new ≡ c.sectors old
  pub durable : IsSettled g new
  pub before : c.keeps read → c.keeps old
  pub same : c.keeps read → (n : ℕ) → n < c.sectors old → g.reads new n ≡ c.reads old n
