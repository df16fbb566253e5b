-- How long a meter may be silent (this product): a number of days or hours.
use Rattle.std.specs.Prelude.{◌≡◌, ℕ, ◌*◌, ◌<◌, ◌≤◌, List}
use Rattle.std.specs.Fmt.{decimal}

-- the digits are a number from 1 to that many, and the seconds that many units
pub record IsCounted (digits : List ℕ) (most unit seconds : ℕ) : Type 0 where
  pub count : ℕ
  pub some : 0 < count
  pub within : count ≤ most
  pub digits_are : digits ≡ decimal count
  pub seconds_are : seconds ≡ count * unit
