-- How the file of an image is made, and what is in it at status 0 (this product).
use Rattle.std.specs.Prelude.{◌≡◌, ℕ, List}
use Rattle.dc_sectors.specs.Disk.{Image, IsImage}
use Rattle.dc_sectors.specs.Runs.{IsSettled}
use Rattle.dc_sectors.specs.declared.device.Disk.{Ghosts}
use Rattle.dc_meters.specs.Language.{register}
use Rattle.mbdc_ending.specs.declared.ending.Ending.{Ending}
use Rattle.mbdc_ending.specs.declared.ending.Ending.TheVariants.{Clean, Faulty, Words, Format, Open}
use Rattle.mbdc_ending.specs.declared.ending.Ending.TheVariants.{Behind, Disk, File, Gateway, Clock, Memory}
use Rattle.mbdc_log.specs.Halves.{half_of}
use Rattle.mbdc_log.specs.Stands.{Stands}

-- it isn't made: for a fault of formatting, of the file with that name, or of memory
abbrev pub IsUnmade : Ending → List ℕ → Type 0
IsUnmade Clean wanted = ⊥
IsUnmade Faulty wanted = ⊥
IsUnmade (Words what) wanted = ⊥
IsUnmade (Format fault) wanted = Unit {0}
IsUnmade (Open fault) wanted = ⊥
IsUnmade (Behind sector) wanted = ⊥
IsUnmade (Disk fault) wanted = ⊥
IsUnmade (File name) wanted = name.now ≡ wanted
IsUnmade Gateway wanted = ⊥
IsUnmade Clock wanted = ⊥
IsUnmade Memory wanted = Unit {0}

-- THE IMAGE IS FORMATTED: the disk has that many sectors, what it reads is durable, and each image that a crash may
-- leave stands for an empty register.
pub record IsFormatted {D : Type 0} (g : Ghosts D) (sectors : ℕ) (disk : D) : Type 0 where
  pub size : g.sectors disk ≡ sectors
  pub durable : IsSettled g disk
  pub stands : (image : Image) → IsImage (g.choices disk) image → Stands register (half_of g disk) register.empty image
