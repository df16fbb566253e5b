-- The disk model of this product: what a disk reads, its possible contents after a crash, and how
-- calls change both.
use Rattle.std.specs.Prelude.{◌≡◌, ◌⊎◌, ◌==◌, ℕ, ◌≤◌, List, [], ◌∷◌, ◌++◌, if◌then◌else◌, Contains}
use Rattle.std.specs.Prelude.{Result, Ok, Err}
use Rattle.mbdc_io.specs.Failures.{HasRisen}
use Rattle.dc_sectors.specs.declared.sector.Sector.{Sector}
use Rattle.dc_sectors.specs.declared.sector.Sector.TheVariants.{Bytes, Unreadable}
use Rattle.dc_sectors.specs.declared.sector.ReadFault.{ReadFault}
use Rattle.dc_sectors.specs.declared.sector.ReadFault.TheVariants.{Unreadable as CannotRead, Failed}

-- what each sector reads
abbrev pub Image : Type 0
Image = ℕ → Sector

-- the possible contents of each sector after a crash
abbrev pub Choices : Type 0
Choices = ℕ → List Sector

-- one of the possible contents for each sector, independently
abbrev pub IsImage : Choices → Image → Type 0
IsImage choices image = (n : ℕ) → Contains (choices n) (image n)

-- the image with these bytes at sector n
abbrev pub put : Image → ℕ → List ℕ → Image
put image n bytes = λ m. if m == n then Bytes bytes else image m

-- a write of these bytes to sector n adds them, and `Unreadable`, to its possible contents
abbrev pub added : Choices → ℕ → List ℕ → Choices
added choices n bytes = λ m. if m == n then choices m ++ Bytes bytes ∷ Unreadable ∷ []
    else choices m

-- a sync leaves what is read as the only possible contents
abbrev pub settled : Image → Choices
settled image = λ n. image n ∷ []

-- the possible results of a read of a sector that reads so; a device may always fail
abbrev pub Answers : Sector → Result (List ℕ) ReadFault → Type 0
Answers sector (Ok bytes) = sector ≡ Bytes bytes
Answers sector (Err CannotRead) = sector ≡ Unreadable
Answers sector (Err Failed) = Unit {0}

-- Time goes on from one moment to another, and the images of the moments between have this
-- property: a crash since t could leave what it could leave before, or an image that has it.
pub record Elapses (before now : ℕ) (past since : ℕ → Image → Type 0)
    (images : Image → Type 0) : Type 0 where
  pub later : before ≤ now
  pub nothing_else : (t : ℕ) (image : Image) → t ≤ before → since t image → past t image
      ⊎ images image
  pub keeps : (t : ℕ) (image : Image) → t ≤ before → past t image → since t image

-- What each call keeps: the number of sectors, and the count of failures, which rises where the device failed and else
-- stays.
pub record Counted {D : Type 0} (sectors failures : D → ℕ) (old new : D)
    (Failed : Type 0) : Type 0 where
  pub count : sectors new ≡ sectors old
  pub later : failures old ≤ failures new
  pub passed : (Failed → ⊥) → failures new ≡ failures old
  pub failed : Failed → HasRisen (failures old) (failures new)
