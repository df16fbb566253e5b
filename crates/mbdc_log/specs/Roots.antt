-- The roots that are written, and when the next one is in force: this product's image format.
use Rattle.std.specs.Prelude.{◌≡◌, ◌≢◌, ◌⊎◌, ℕ, ◌+◌, ◌-◌}
use Rattle.dc_sectors.specs.Disk.{Image}
use Rattle.dc_roots.specs.declared.root.Root.{Root}
use Rattle.dc_roots.specs.Root.{IsRoot, slot}
use Rattle.mbdc_log.specs.Stands.{image_version}

-- the image is the old one, but the slot of that root holds it
pub record IsRootDone (next : Root) (old image : Image) : Type 0 where
  pub elsewhere : (k : ℕ) → k ≢ slot next.generation → image k ≡ old k
  pub here : IsRoot next (image (slot next.generation))

-- the root that formatting writes, for halves of that length: the base group of half 0, in the first session
abbrev pub first_root : ℕ → Root
first_root half_len = record {
  version = image_version;
  half = 0;
  generation = 1;
  session = 1;
  base_sequence = 1;
  half_len = half_len;
}

-- the root that opening writes: it begins a session
abbrev pub opened : Root → Root
opened root = record root { generation = root.generation + 1; session = root.session + 1 }

-- the root that compacting writes: the other half, whose base group has that sequence and the version of what is
-- written
abbrev pub compacted : Root → ℕ → Root
compacted root sequence = record root {
  version = image_version;
  half = 1 - root.half;
  generation = root.generation + 1;
  base_sequence = sequence;
}

-- THE ROOT IN FORCE ONCE AN IMAGE IS OPENED whose last group has that sequence: the next session's. An image of
-- version 1 has been compacted after it.
abbrev pub IsOpenedRoot : Root → ℕ → Root → Type 0
IsOpenedRoot root last now = ((root.version ≡ image_version) × (now ≡ opened root))
    ⊎ ((root.version ≢ image_version) × (now ≡ compacted (opened root) (last + 1)))
