-- What one or more calls make of a disk, at a bound `D: Disk` whose ghosts are g.
use Rattle.std.specs.Prelude.{◌≡◌, ◌⊎◌, ◌≤◌, ℕ}
use Rattle.dc_sectors.specs.declared.device.Disk.{Ghosts}
use Rattle.dc_sectors.specs.Disk.{Image, IsImage, Elapses, Counted, settled}

-- Time goes on by one call, and a stop within it leaves one of these images.
abbrev pub Passes : {D : Type 0} → Ghosts D → D → D → (Image → Type 0) → Type 0
Passes g old new images =
    Elapses (g.moment old) (g.moment new) (g.images_since old) (g.images_since new) images

-- A stop at any moment from the old state to the new leaves an image that has P, whatever the calls answered.
pub record LeavesOnly {D : Type 0} (g : Ghosts D) (old new : D) (P : Image → Type 0) : Type 0 where
  pub later : g.moment old ≤ g.moment new
  pub each : (image : Image) → g.images_since new (g.moment old) image → P image
  -- for a run of calls that began earlier
  pub before : (t : ℕ) (image : Image) → t ≤ g.moment old → g.images_since new t image
      → g.images_since old t image ⊎ P image

-- The disk reads as before, and a stop at any moment leaves an image of before.
pub record OnlyLooked {D : Type 0} (g : Ghosts D) (old new : D) : Type 0 where
  pub reads_same : g.reads new ≡ g.reads old
  pub choices_same : g.choices new ≡ g.choices old
  pub any_moment : LeavesOnly g old new (IsImage (g.choices old))
  pub before : g.keeps new → g.keeps old

-- The number of sectors stays, and the count of failures rises where the device failed and else stays.
abbrev pub Counts : {D : Type 0} → Ghosts D → D → D → Type 0 → Type 0
Counts g = Counted g.sectors g.failures

-- What is read is durable: it is the one choice of each sector.
abbrev pub IsSettled : {D : Type 0} → Ghosts D → D → Type 0
IsSettled g disk = g.choices disk ≡ settled (g.reads disk)

-- A power cut came between these two states of a disk, before, within or after a call. This disk
-- has what was left, and nothing else.
pub record WasLeft {D : Type 0} (g : Ghosts D) (from to disk : D) : Type 0 where
  pub image : g.images_since to (g.moment from) (g.reads disk)
  pub is_settled : IsSettled g disk
  pub same_size : g.sectors disk ≡ g.sectors from
