-- What the command `rescue` leaves in a new image, what it prints, and why it rescues nothing (this product).
use Rattle.std.specs.Prelude.{◌≡◌, ◌⊎◌, ◌<◌, ◌≤◌, ◌-◌, ℕ, List, ◌++◌, codes}
use Rattle.dc_sectors.specs.Disk.{Image, IsImage}
use Rattle.dc_sectors.specs.declared.device.Disk.{Ghosts}
use Rattle.mbdc_io.specs.Words.{number_word}
use Rattle.mbdc_log.specs.Greatest.{IsGreatest}
use Rattle.mbdc_commands.specs.FitOver.{commit_fault}
use Rattle.mbdc_ending.specs.Outcome.{opening_ended}
use Rattle.mbdc_ending.specs.declared.ending.Ending.{Ending}
use Rattle.mbdc_ending.specs.declared.ending.Ending.TheVariants.{Format as NotFormatted, Disk as NotWritten}
use Rattle.mbdc_io.specs.Failures.{HasRisen}
use Rattle.mbdc_log.specs.Halves.{fewest_sectors, half_of}
use Rattle.mbdc_log.specs.Refusal.{TellsOfImage}
use Rattle.mbdc_log.specs.Rescue.{IsLost, IsRescued}
use Rattle.mbdc_log.specs.declared.fault.OpenFault.{OpenFault}
use Rattle.mbdc_log.specs.declared.fault.OpenFault.TheVariants.{Device, NotImage}
use Rattle.mbdc_log.specs.declared.rescuing.RenewFault.{RenewFault}
use Rattle.mbdc_log.specs.declared.rescuing.RenewFault.TheVariants.{Format, Open, Store}
use Rattle.mbdc_log.specs.declared.greatest.Greatest.{Greatest}
use Rattle.mbdc_log.specs.declared.rescuing.Source.{Source}
use Rattle.mbdc_log.specs.declared.rescuing.Source.TheVariants.{Whole, Without, OtherRoot}
use Rattle.mbdc_change.specs.State.{State}
use Rattle.dc_core.specs.PendingImages.{Stands}
use Rattle.dc_roots.specs.declared.root.Root.{Root}
use Rattle.dc_meters.specs.Language.{register}

-- a name and a sector
unfoldable pub sector_line : List ℕ → ℕ → List ℕ
sector_line name sector = name ++ number_word sector ++ codes "\n"

-- without this sector, and by the root before the one in force, which is in this slot
unfoldable pub older_line : (sector slot : ℕ) → List ℕ
older_line sector slot = codes "OLDER" ++ number_word sector ++ number_word slot ++ codes "\n"

-- the part of the image that the state is read from
abbrev pub source_line : Source → List ℕ
source_line Whole = codes "WHOLE\n"
source_line (Without sector) = sector_line (codes "WITHOUT") sector
source_line (OtherRoot sector slot) = older_line sector slot

-- and how many groups after the last one of the state left a trace
unfoldable pub rescued_text : Source → (last greatest : ℕ) → List ℕ
rescued_text source last greatest =
    source_line source ++ codes "LOST" ++ number_word (greatest - last) ++ codes "\n"

-- THE NEW IMAGE: each image that a crash may leave of it stands for the state that was rescued of the old one.
pub record Renews {C D : Type 0} (c : Ghosts C) (g : Ghosts D) (copy cleared : C) (source : Source) (root : Root)
    (place last : ℕ) (state : State) (greatest : Greatest) (new : D) : Type 0 where
  pub rescued : c.keeps cleared
      → IsRescued register (half_of c copy) source root place last state (c.reads copy)
  pub seen : c.keeps cleared → IsGreatest (half_of c copy) greatest (c.reads copy)
  pub stands : g.keeps new → (image : Image) → IsImage (g.choices new) image
      → Stands (half_of g new) state image

-- neither the image nor a part of it reads as a state, or the copy failed, or memory ran out
pub record IsAllLost {C : Type 0} (c : Ghosts C) (copy cleared : C) (ending : Ending) : Type 0 where
  pub fault : OpenFault
  pub ends : ending ≡ opening_ended fault
  pub small : c.sectors copy < fewest_sectors → fault ≡ NotImage
  pub device : fault ≡ Device → HasRisen (c.failures copy) (c.failures cleared)
  pub lost : fewest_sectors ≤ c.sectors copy → c.keeps cleared → TellsOfImage fault
      → IsLost register (half_of c copy) fault (c.reads copy)

-- the ending where the state isn't written into a new image
abbrev pub renewing_ended : RenewFault → Ending
renewing_ended (Format fault) = NotFormatted fault
renewing_ended (Open fault) = opening_ended fault
renewing_ended (Store fault) = NotWritten (commit_fault fault)

-- WHY NOTHING IS RESCUED, with the ending: all is lost, or the state isn't written.
abbrev pub IsUnrescued : {C : Type 0} → Ghosts C → (copy cleared : C) → Ending → Type 0
IsUnrescued c copy cleared ending =
    IsAllLost c copy cleared ending ⊎ ((fault : RenewFault) × (ending ≡ renewing_ended fault))
