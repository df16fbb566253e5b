-- Exact numbers, and what is printed of them (this product).
use Rattle.std.specs.Prelude.{ℕ, ◌+◌, ◌*◌, ◌/◌, ◌^◌, ◌<◌}

-- A number of at least 0 or below it, as a fraction: rounded half away from zero to that many decimals. x + 1/2 rounded down is 2 x + 1
-- over 2 rounded down.
abbrev pub half_up : ℕ → ℕ → ℕ → ℕ
half_up num den decimals = (2 * (num * 10 ^ decimals) + den) / (2 * den)

-- all that is computed on the way fits 128 bits, and at most 18 digits are printed
pub record FitsRounded (num den decimals : ℕ) : Type 0 where
  pub scaled : 2 * (num * 10 ^ decimals) + den < 2 ^ 128
  pub half : 2 * den < 2 ^ 128
  pub few : half_up num den decimals < 10 ^ 18
