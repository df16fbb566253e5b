-- The choice of the root in force: this product's image format.
use Rattle.std.proofs.Common.{◌≡◌, ◌≢◌, ◌⊎◌, ◌≤◌, ℕ, Option, Some, None, Result, Ok, Err}
use Rattle.dc_sectors.specs.declared.sector.Sector.{Sector}
use Rattle.dc_sectors.specs.declared.sector.Sector.TheVariants.{Bytes, Unreadable}
use Rattle.dc_sectors.specs.Disk.{Image}
use Rattle.dc_roots.specs.declared.root.Root.{Root}
use Rattle.dc_roots.specs.declared.fault.RootFault.{RootFault}
use Rattle.dc_roots.specs.declared.fault.RootFault.TheVariants.{NoRoot, Worn, Device}
use Rattle.dc_roots.specs.Root.{IsRoot, slot}

-- the image has that root, in the slot of its generation
abbrev pub HasRoot : Root → Image → Type 0
HasRoot root image = IsRoot root (image (slot root.generation))

-- the valid root of the greater generation
pub record IsChosen (root : Root) (image : Image) : Type 0 where
  pub here : HasRoot root image
  pub greatest : (other : Root) → HasRoot other image → other.generation ≤ root.generation

-- the first unreadable one of the two slots
abbrev pub first_unreadable : Sector → Sector → Option ℕ
first_unreadable Unreadable second = Some 1
first_unreadable (Bytes first) Unreadable = Some 2
first_unreadable (Bytes first) (Bytes second) = None

-- neither slot has a valid root, and the first unreadable one is that
pub record IsRootless (unreadable : Option ℕ) (image : Image) : Type 0 where
  pub none : (root : Root) → HasRoot root image → ⊥
  pub first : unreadable ≡ first_unreadable (image 1) (image 2)

-- the possible results of a choice from an image; a device may always fail
abbrev pub IsChoice : Image → Result Root RootFault → Type 0
IsChoice image (Ok root) = IsChosen root image
IsChoice image (Err (NoRoot unreadable)) = IsRootless unreadable image
IsChoice image (Err Worn) = ⊥
IsChoice image (Err Device) = Unit {0}

-- The image is the old one, except that the slot of that root may be unreadable or hold it.
pub record IsRootWrite (next : Root) (old image : Image) : Type 0 where
  pub elsewhere : (k : ℕ) → k ≢ slot next.generation → image k ≡ old k
  pub here : ((image (slot next.generation) ≡ old (slot next.generation))
      ⊎ (image (slot next.generation) ≡ Unreadable)) ⊎ IsRoot next (image (slot next.generation))
