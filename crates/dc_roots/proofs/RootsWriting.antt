-- What a write of one sector leaves.
use Rattle.std.proofs.Common.{◌≡◌, ℕ, List, subst}
use Rattle.dc_sectors.specs.Disk.{Image, Choices, IsImage, added}
use Rattle.dc_sectors.specs.Images.{image_within, within_added}
use Rattle.dc_sectors.specs.declared.device.Disk.{Ghosts}
use Rattle.dc_sectors.specs.Runs.{Passes, LeavesOnly}
use Rattle.dc_sectors.proofs.Moments.{started, goes_on}

module _ {D : Type 0} (g : Ghosts D) (old : D) (choices : Choices)
    (now : (image : Image) → g.images_since old (g.moment old) image → IsImage choices image) (n : ℕ) (bytes : List ℕ) where
  -- before the write
  pub unwritten : LeavesOnly g old old (IsImage (added choices n bytes))
  unwritten = started g old (IsImage (added choices n bytes)) (λ image left. image_within choices (added choices n bytes) (within_added choices n bytes) image (now image left))

  pub written : (new : D) (m : ℕ) (text : List ℕ) → m ≡ n → text ≡ bytes → Passes g old new (IsImage (added choices m text))
      → LeavesOnly g old new (IsImage (added choices n bytes))
  written new m text at is time = goes_on g old old new (IsImage (added choices n bytes)) (IsImage (added choices m text)) unwritten time
      (λ image left. subst (λ (k : ℕ). IsImage (added choices k bytes) image) at (subst (λ (l : List ℕ). IsImage (added choices m l) image) is left))
