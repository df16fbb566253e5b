-- How a mask of the walk is kept: its mask, the number of its digits and how many they are (this product).
use Rattle.std.specs.Prelude.{◌≡◌, ℕ, ◌^◌, ◌<◌, ◌≤◌, length}
use Rattle.std.specs.Int.Digits.{number_from_digits}
use Rattle.dc_address.specs.Digits.{decimal_digits}
use Rattle.dc_address.specs.Mask.{MaskParts}
use Rattle.dc_search.specs.Prefix.{mask_of_digits}

pub record IsBranch (mask : MaskParts) (number fixed : ℕ) : Type 0 where
  pub fits : number < 10 ^ fixed
  pub few : fixed ≤ 8
  -- the digits give the fields back
  pub mask_back : mask_of_digits (decimal_digits fixed number) ≡ mask
  pub number_back : number_from_digits 10 (decimal_digits fixed number) ≡ number
  pub fixed_back : length (decimal_digits fixed number) ≡ fixed
