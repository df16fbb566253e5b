-- The text of a sector.
use Rattle.std.proofs.Common.{◌≡◌, ℕ, List}
use Rattle.dc_sectors.specs.declared.sector.Sector.{Sector}
use Rattle.dc_sectors.specs.declared.sector.Sector.TheVariants.{Bytes}

-- a readable sector has one
pub one_text : (sector : Sector) (a b : List ℕ) → sector ≡ Bytes a → sector ≡ Bytes b → a ≡ b
one_text sector a b left right = cc
