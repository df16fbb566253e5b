-- What a look finds of a disk's image (this product): the state that it reads as, by the definitions that opening follows,
-- and what opening would make of it.
use Rattle.std.specs.Prelude.{◌≡◌, ◌+◌, ℕ, Option, Some, None}
use Rattle.dc_sectors.specs.Disk.{Image}
use Rattle.mbdc_change.specs.State.{State}
use Rattle.dc_roots.specs.declared.root.Root.{Root}
use Rattle.mbdc_log.specs.Greatest.{IsGreatest, IsOneAhead}
use Rattle.mbdc_log.specs.declared.greatest.Greatest.{Greatest}
use Rattle.dc_core.specs.PendingImages.{IsUnread, IsRead}
use Rattle.mbdc_log.specs.Refusal.{IsSpent, TellsOfImage}
use Rattle.mbdc_log.specs.declared.fault.OpenFault.{OpenFault}
use Rattle.mbdc_log.specs.declared.fault.OpenFault.TheVariants.{NotImage, Worn, Device}
use Rattle.mbdc_ending.specs.declared.fault.ProgramFault.{ProgramFault}
use Rattle.mbdc_ending.specs.declared.fault.ProgramFault.TheVariants.{Read, TooLong, Write, NoMemory}
use Rattle.mbdc_ending.specs.declared.fault.ProgramFault.TheVariants.{Open}
use Rattle.mbdc_looks.specs.declared.look.Outlook.{Outlook}

-- the content of an image: the root in force, the sequence of the last group, the place of the next
-- one, and the state
pub record Seen : Type 0 where
  pub root : Root
  pub last : ℕ
  pub place : ℕ
  pub state : State

-- why an image that reads doesn't open: no session can begin after that root and the group of that
-- sequence
abbrev pub IsWearOf : Root → ℕ → Option OpenFault → Type 0
IsWearOf root last None = IsSpent root last → ⊥
IsWearOf root last (Some fault) = (fault ≡ Worn) × IsSpent root last

-- why an image reads as no state
abbrev pub IsUnreadFor : ℕ → Image → Option OpenFault → Type 0
IsUnreadFor half_len image None = ⊥
IsUnreadFor half_len image (Some fault) = TellsOfImage fault × IsUnread half_len image fault

-- FRESH, OR BEHIND AND SAID SO: where halves carry that session and sequence at most, a sector of them is ahead of what
-- is seen and is named, or none is.
abbrev pub IsAheadOf : ℕ → Greatest → Seen → Option ℕ → Type 0
IsAheadOf half_len greatest seen ahead = (halves : Image) → IsGreatest half_len greatest halves
    → IsOneAhead half_len seen.root.session (seen.last + 1) ahead halves

-- what an image reads as, a sector that is ahead of that, and why it doesn't open
abbrev pub IsLook : ℕ → Greatest → Image → Option Seen → Outlook → Type 0
IsLook half_len greatest image (Some seen) outlook =
    IsRead half_len seen.root seen.place seen.last seen.state image
    × IsAheadOf half_len greatest seen outlook.ahead
    × IsWearOf seen.root seen.last outlook.refusal
IsLook half_len greatest image None outlook =
    (outlook.ahead ≡ None) × IsUnreadFor half_len image outlook.refusal

-- of a disk that is too small for an image
abbrev pub no_image : Outlook
no_image = record { refusal = Some NotImage; ahead = None }

-- what ends a look: memory, or the disk, which has counted its failure
abbrev pub IsOfLook : Type 0 → ProgramFault → Type 0
IsOfLook disk_failed Read = ⊥
IsOfLook disk_failed TooLong = ⊥
IsOfLook disk_failed Write = ⊥
IsOfLook disk_failed NoMemory = Unit {0}
IsOfLook disk_failed (Open fault) = (fault ≡ Device) × disk_failed
