-- The place of the two halves of an image, and the capacity of a half: this product's image format.
use Rattle.std.specs.Prelude.{◌≡◌, ◌⊎◌, ◌<◌, ◌≤◌, ℕ, ◌+◌, ◌-◌, ◌*◌, ◌/◌, min}
use Rattle.dc_sectors.specs.declared.device.Disk.{Ghosts}
use Rattle.dc_sectors.specs.Disk.{Image}
use Rattle.dc_pages.specs.Group.{page_payload}

-- minimum number of sectors of an image, and minimum and maximum number of sectors of a half
abbrev pub fewest_sectors : ℕ
fewest_sectors = 131

abbrev pub shortest_half : ℕ
shortest_half = 64

-- maximum number of sectors of a half
abbrev pub longest_half : ℕ
longest_half = 65536

-- Number of sectors of a half. Sector 0 isn't used, and sectors 1 and 2 are the root slots.
abbrev pub half_len_of : ℕ → ℕ
half_len_of sectors = min longest_half ((sectors - 3) / 2)

-- number of sectors of a half of the image on this disk
abbrev pub half_of : {D : Type 0} → Ghosts D → D → ℕ
half_of g disk = half_len_of (g.sectors disk)

-- the first sector of a half, and the number after its last one
abbrev pub half_start : ℕ → ℕ → ℕ
half_start half_len half = 3 + half_len * half

-- the number after the last sector of half 0 or 1
abbrev pub half_end : ℕ → ℕ → ℕ
half_end half_len half = 3 + half_len * half + half_len

-- maximum size of a state: the payload of half of the half's sectors
abbrev pub budget_of : ℕ → ℕ
budget_of half_len = page_payload * (half_len / 2)

-- the sectors outside the image, sector 0 and those after the second half, read as before
abbrev pub SparesRest : ℕ → Image → Image → Type 0
SparesRest half_len old image = (m : ℕ) → (m < 1) ⊎ (3 + 2 * half_len ≤ m) → image m ≡ old m
