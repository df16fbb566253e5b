-- The contents of a root slot: this product's image format.
use Rattle.std.specs.Prelude.{◌≡◌, ◌≤◌, ℕ, List}
use Rattle.dc_sectors.specs.declared.sector.Sector.{Sector}
use Rattle.dc_sectors.specs.declared.sector.Sector.TheVariants.{Bytes, Unreadable}
use Rattle.dc_roots.specs.declared.root.Root.{Root}
use Rattle.dc_roots.specs.declared.chooser.Held.{Held}
use Rattle.dc_roots.specs.declared.chooser.Held.TheVariants.{Valid, Other, Lost}
use Rattle.dc_roots.specs.Root.{IsRoot, slot}

-- the slot n with such a sector holds a valid root of its own, or is readable and holds none, or is unreadable
abbrev pub IsHeld : ℕ → Sector → Held → Type 0
IsHeld n sector (Valid root) = IsRoot root sector × (slot root.generation ≡ n)
IsHeld n sector Other = ((bytes : List ℕ) × (sector ≡ Bytes bytes))
    × ((root : Root) → IsRoot root sector → slot root.generation ≡ n → ⊥)
IsHeld n sector Lost = sector ≡ Unreadable

-- a valid root names one of the two halves, whatever the disk is
abbrev pub NamesHalf : Held → Type 0
NamesHalf (Valid root) = root.half ≤ 1
NamesHalf Other = Unit {0}
NamesHalf Lost = Unit {0}
