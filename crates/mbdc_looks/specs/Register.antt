-- The register of an image (this product): that of the state which the image reads as, where it opens, and a sector that
-- is ahead of that state, if one is.
use Rattle.std.specs.Prelude.{◌≡◌, ◌≤◌, ℕ, Option, Some, None}
use Rattle.mbdc_change.specs.State.{Held}
use Rattle.dc_sectors.specs.Disk.{Image}
use Rattle.mbdc_log.specs.Halves.{half_len_of, budget_of, fewest_sectors}
use Rattle.mbdc_log.specs.declared.greatest.Greatest.{Greatest}
use Rattle.mbdc_looks.specs.Told.{Seen, IsLook}

pub record IsRegisterOf (sectors : ℕ) (greatest : Greatest) (image : Image) (house : Held) (ahead : Option ℕ)
    : Type 0 where
  pub enough : fewest_sectors ≤ sectors
  pub seen : Seen
  pub look : IsLook (half_len_of sectors) greatest image (Some seen) (record { refusal = None; ahead = ahead })
  pub state_is : house.state ≡ seen.state
  pub budget_is : house.budget ≡ budget_of (half_len_of sectors)
