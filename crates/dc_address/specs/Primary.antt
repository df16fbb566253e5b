-- Primary addresses (EN 13757-2, link layer addresses).
use Rattle.std.specs.Prelude.{ℕ, ◌≤◌}

-- an address of one meter
pub record IsPrimary (number : ℕ) : Type 0 where
  pub low : 1 ≤ number
  pub high : number ≤ 250
