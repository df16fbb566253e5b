-- The stamp of a sector (this product's image format).
use Rattle.std.specs.Prelude.{ℕ, Option, Some, None}
use Rattle.dc_sectors.specs.declared.sector.Sector.{Sector}
use Rattle.dc_pages.specs.Group.{Carries}
use Rattle.dc_pages.specs.declared.stamp.Stamp.{Stamp}

-- the sector carries that stamp, or none
abbrev pub IsStampOf : Sector → Option Stamp → Type 0
IsStampOf sector (Some stamp) = Carries stamp.session stamp.sequence sector
IsStampOf sector None = (session sequence : ℕ) → Carries session sequence sector → ⊥
