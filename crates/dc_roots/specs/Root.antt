-- Root sectors: this product's image format.
use Rattle.std.proofs.Common.{◌≡◌, ℕ, ◌+◌, ◌%◌, ◌≤◌, List, [], ◌∷◌, ◌++◌, take, replicate}
use Rattle.std.specs.Prelude.{slice_index}
use Rattle.dc_sectors.specs.declared.sector.Sector.{Sector}
use Rattle.dc_sectors.specs.declared.sector.Sector.TheVariants.{Bytes}
use Rattle.dc_sectors.specs.Fields.{field, number_bytes}
use Rattle.dc_roots.specs.declared.root.Root.{Root}

-- the bytes with which a root sector begins
abbrev pub magic : List ℕ
magic = 0x4D ∷ 0x42 ∷ 0x44 ∷ 0x43 ∷ []

-- the slot of the root of a generation
abbrev pub slot : ℕ → ℕ
slot generation = 1 + generation % 2

-- The sector is readable and is a valid root with these fields. The two bytes after the half's, and
-- those from 36 on, are ignored.
pub record IsRoot (root : Root) (sector : Sector) : Type 0 where
  pub bytes : List ℕ
  pub readable : sector ≡ Bytes bytes
  pub magic_is : take 4 bytes ≡ magic
  pub version_is : slice_index bytes 4 ≡ root.version
  pub half_is : slice_index bytes 5 ≡ root.half
  pub half_small : root.half ≤ 1
  pub generation_is : field 8 8 bytes ≡ root.generation
  pub session_is : field 8 16 bytes ≡ root.session
  pub base_is : field 8 24 bytes ≡ root.base_sequence
  pub length_is : field 4 32 bytes ≡ root.half_len

-- the bytes of a root sector up to its numbers
abbrev pub root_front : Root → List ℕ
root_front root = magic ++ root.version ∷ root.half ∷ 0 ∷ 0 ∷ []

-- the sector that is written for a root: bytes that aren't named are zero
unfoldable pub root_bytes : Root → List ℕ
root_bytes root =
    ((((root_front root ++ number_bytes 8 root.generation) ++ number_bytes 8 root.session)
    ++ number_bytes 8 root.base_sequence) ++ number_bytes 4 root.half_len)
    ++ replicate 476 0

-- the root after that one, in another slot
abbrev pub next_of : Root → Root
next_of root = record root { generation = root.generation + 1 }
