-- A file over time (this product): what each sector holds at each instant.
use Rattle.std.specs.Prelude.{◌≡◌, ◌≤◌, ℕ}
use Rattle.dc_sectors.specs.Disk.{Image}
use Rattle.dc_sectors.specs.Readings.{Reading}

-- A sector that holds the same at two instants held it at each one between: once it is written over, it doesn't
-- return to what it held.
abbrev pub NeverReturns : (ℕ → Image) → Type 0
NeverReturns file = (n before between after : ℕ) → before ≤ between → between ≤ after
    → file before n ≡ file after n → file between n ≡ file before n

-- the sector held what the reading gave once before the instant and once after it, or at it
abbrev pub StandsAcross : (ℕ → Image) → ℕ → Reading → Type 0
StandsAcross file instant reading = (before : ℕ) × (after : ℕ) × (before ≤ instant) × (instant ≤ after)
    × (file before reading.0 ≡ reading.1) × (file after reading.0 ≡ reading.1)
