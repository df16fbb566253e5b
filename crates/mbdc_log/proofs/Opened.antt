-- What opening may leave at any moment, and on Ok.
use Rattle.std.proofs.Common.{ℕ}
use Rattle.dc_sectors.specs.Disk.{Image, Choices, IsImage}
use Rattle.dc_sectors.specs.declared.device.Disk.{Ghosts}
use Rattle.dc_sectors.specs.Runs.{LeavesOnly}
use Rattle.dc_sectors.proofs.Moments.{weakened, followed}
use Rattle.mbdc_log.specs.Stands.{Stands, EachStands, StandsForOne}
use Rattle.mbdc_io.specs.declared.kept.kept.Language.{Ghosts as Language}

module _ {K : Type 0} (lang : Language K) where
  -- an image of the disk as it was
  stood : (half_len : ℕ) (choices : Choices) → EachStands lang half_len choices → (image : Image) → IsImage choices image → StandsForOne lang half_len choices image
  stood half_len choices each image is = let one = each image is in record { state = one.0; stands = one.1; was = image; was_image = is; stood = one.1 }

  module _ {D : Type 0} (g : Ghosts D) (half_len : ℕ) (old : D) (each : EachStands lang half_len (g.choices old)) where
    -- nothing was written yet
    pub before_writing : (read : D) → LeavesOnly g old read (IsImage (g.choices old)) → LeavesOnly g old read (StandsForOne lang half_len (g.choices old))
    before_writing read reading = weakened g old read (IsImage (g.choices old)) (StandsForOne lang half_len (g.choices old)) reading (stood half_len (g.choices old) each)

    -- and then the session is begun, on what was read
    pub after_session : (read begun : D) (state : lang.State) (was : Image) → IsImage (g.choices old) was → Stands lang half_len state was
        → LeavesOnly g old read (IsImage (g.choices old)) → LeavesOnly g read begun (Stands lang half_len state)
        → LeavesOnly g old begun (StandsForOne lang half_len (g.choices old))
    after_session read begun state was is stands reading session =
        followed g old read begun (StandsForOne lang half_len (g.choices old)) (Stands lang half_len state) (StandsForOne lang half_len (g.choices old))
        (before_writing read reading) session (λ image left. left) (λ image now. record { state = state; stands = now; was = was; was_image = is; stood = stands })
