-- What is rescued of a damaged image (this product): what it reads as without the sector where reading stops. And why
-- a state isn't written to a new one.
use Rattle.std.specs.Prelude.{◌≡◌, ◌<◌, ◌+◌, ◌*◌, ℕ, replicate}
use Rattle.dc_sectors.specs.Disk.{Image, put}
use Rattle.dc_sectors.specs.declared.device.Disk.{Ghosts}
use Rattle.dc_roots.specs.declared.root.Root.{Root}
use Rattle.dc_roots.specs.Root.{slot}
use Rattle.dc_roots.specs.Choice.{HasRoot, IsChosen}
use Rattle.mbdc_log.specs.declared.fault.FormatFault.{FormatFault}
use Rattle.mbdc_log.specs.declared.fault.FormatFault.TheVariants.{TooSmall, AlreadyFormatted, Device as Unformatted}
use Rattle.mbdc_log.specs.declared.fault.OpenFault.{OpenFault}
use Rattle.mbdc_log.specs.declared.fault.OpenFault.TheVariants.{NotImage, Damaged, Version, Worn, Device, NoMemory}
use Rattle.mbdc_log.specs.declared.fault.StoreFault.{StoreFault}
use Rattle.mbdc_log.specs.declared.fault.StoreFault.TheVariants.{Device as Failed, Worn as Exhausted, Stopped}
use Rattle.mbdc_log.specs.declared.rescuing.RenewFault.{RenewFault}
use Rattle.mbdc_log.specs.declared.rescuing.RenewFault.TheVariants.{Format, Open, Store}
use Rattle.mbdc_log.specs.declared.rescuing.Source.{Source}
use Rattle.mbdc_log.specs.declared.rescuing.Source.TheVariants.{Whole, Without, OtherRoot}
use Rattle.mbdc_log.specs.Halves.{fewest_sectors}
use Rattle.mbdc_log.specs.Refusal.{IsUnread, TellsOfImage}
use Rattle.mbdc_log.specs.Stands.{IsRead}
use Rattle.mbdc_io.specs.Failures.{HasRisen}
use Rattle.mbdc_io.specs.declared.kept.kept.Language.{Ghosts as Language}

-- the image with zeros in a sector
abbrev pub without : ℕ → Image → Image
without n image = put image n (replicate 512 0)

-- the part of an image that the state is read from
abbrev pub part_of : Source → Image → Image
part_of Whole image = image
part_of (Without n) image = without n image
part_of (OtherRoot n at) image = without at image

-- the sector that a fault names, or else this one
abbrev pub sector_in : ℕ → OpenFault → ℕ
sector_in at (Damaged n) = n
sector_in at NotImage = at
sector_in at Version = at
sector_in at Worn = at
sector_in at Device = at
sector_in at NoMemory = at

-- the slot of the root in force
abbrev pub IsSlot : ℕ → Image → Type 0
IsSlot at image = (root : Root) × IsChosen root image × (at ≡ slot root.generation)

module _ {K : Type 0} (lang : Language K) where
  -- reading stops, for some reason that is a fact of the image
  pub record Stops (half_len : ℕ) (image : Image) : Type 0 where
    pub fault : OpenFault
    pub of_image : TellsOfImage fault
    pub unread : IsUnread lang half_len image fault

  -- reading the whole image stops for that fault, and still stops without the sector that it names
  pub record IsStuck (half_len : ℕ) (fault : OpenFault) (image : Image) : Type 0 where
    pub of_image : TellsOfImage fault
    pub unread : IsUnread lang half_len image fault
    pub without_it : (n : ℕ) → fault ≡ Damaged n → n < 3 + 2 * half_len → Stops half_len (without n image)

  -- reading stops without the root in force too: no older root leads to a state
  abbrev pub HasNoOlder : ℕ → Image → Type 0
  HasNoOlder half_len image = (at : ℕ) → IsSlot at image → Stops half_len (without at image)

  -- NOTHING IS RESCUED: neither way leads to a state.
  abbrev pub IsLost : ℕ → OpenFault → Image → Type 0
  IsLost half_len fault image = IsStuck half_len fault image × HasNoOlder half_len image

  -- Why not the whole image: reading stops at that sector; and it still stops without it, or stops at the root in
  -- force, so that this root is left out.
  abbrev pub IsReason : ℕ → Source → Image → Type 0
  IsReason half_len Whole image = Unit {0}
  IsReason half_len (Without n) image = IsUnread lang half_len image (Damaged n)
  IsReason half_len (OtherRoot n at) image = (fault : OpenFault) × IsStuck half_len fault image
      × (n ≡ sector_in at fault) × IsSlot at image

  -- THE STATE IS RESCUED: as much of the image as can be read reads as it.
  pub record IsRescued (half_len : ℕ) (source : Source) (root : Root) (place last : ℕ)
      (state : lang.State) (image : Image) : Type 0 where
    pub reason : IsReason half_len source image
    pub read : IsRead lang half_len root place last state (part_of source image)

module _ {D : Type 0} (g : Ghosts D) (disk left : D) where
  -- the disk isn't formatted: it is too small, or has a root, or failed
  abbrev pub IsFormatRefused : FormatFault → Type 0
  IsFormatRefused TooSmall = g.sectors disk < fewest_sectors
  IsFormatRefused AlreadyFormatted = g.keeps left → (root : Root) × HasRoot root (g.reads disk)
  IsFormatRefused Unformatted = HasRisen (g.failures disk) (g.failures left)

  -- The new image isn't opened: the disk failed, or memory ran out. Of a disk that keeps the disk model nothing else
  -- keeps it shut.
  abbrev pub IsOpenRefused : OpenFault → Type 0
  IsOpenRefused NotImage = g.keeps left → ⊥
  IsOpenRefused (Damaged n) = g.keeps left → ⊥
  IsOpenRefused Version = g.keeps left → ⊥
  IsOpenRefused Worn = g.keeps left → ⊥
  IsOpenRefused Device = HasRisen (g.failures disk) (g.failures left)
  IsOpenRefused NoMemory = Unit {0}

  -- the state isn't written: the disk failed
  abbrev pub IsStoreRefused : StoreFault → Type 0
  IsStoreRefused Failed = HasRisen (g.failures disk) (g.failures left)
  IsStoreRefused Exhausted = g.keeps left → ⊥
  IsStoreRefused Stopped = ⊥

  -- WHY A STATE ISN'T IN A NEW IMAGE, by the step that failed.
  abbrev pub IsRenewRefused : RenewFault → Type 0
  IsRenewRefused (Format fault) = IsFormatRefused fault
  IsRenewRefused (Open fault) = IsOpenRefused fault
  IsRenewRefused (Store fault) = IsStoreRefused fault
