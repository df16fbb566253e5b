-- The greatest session and the greatest sequence that sectors of an image carry (this product's image format).
use Rattle.std.specs.Prelude.{◌≡◌, ◌⊎◌, ◌<◌, ◌≤◌, ℕ, ◌+◌, ◌*◌, Option, Some, None}
use Rattle.dc_sectors.specs.Disk.{Image}
use Rattle.dc_sectors.specs.declared.sector.Sector.{Sector}
use Rattle.dc_pages.specs.Group.{Carries}
use Rattle.mbdc_log.specs.Stands.{IsAhead, IsFresh}
use Rattle.mbdc_log.specs.declared.greatest.Peak.{Peak}
use Rattle.mbdc_log.specs.declared.greatest.Greatest.{Greatest}

-- a page or commit sector of that session, and one of that sequence
abbrev pub OfSession : ℕ → Sector → Type 0
OfSession session sector = (sequence : ℕ) × Carries session sequence sector

abbrev pub OfSequence : ℕ → Sector → Type 0
OfSequence sequence sector = (session : ℕ) × Carries session sequence sector

-- the greatest number that a sector before `end` has, and one that has it; 0 where none has one
pub record IsPeak (Has : ℕ → Sector → Type 0) (end : ℕ) (peak : Peak) (image : Image) : Type 0 where
  pub most : (m n : ℕ) → 3 ≤ m → m < end → Has n (image m) → n ≤ peak.number
  pub there : (peak.number ≡ 0) ⊎ ((3 ≤ peak.sector) × (peak.sector < end) × Has peak.number (image peak.sector))

-- the greatest session and the greatest sequence of the sectors of the halves before `end`
pub record IsGreatestBefore (end : ℕ) (greatest : Greatest) (image : Image) : Type 0 where
  pub session : IsPeak OfSession end greatest.session image
  pub sequence : IsPeak OfSequence end greatest.sequence image

abbrev pub IsGreatest : ℕ → Greatest → Image → Type 0
IsGreatest half_len = IsGreatestBefore (3 + 2 * half_len)

-- A sector of the halves that is ahead, if one is.
abbrev pub IsOneAhead : ℕ → ℕ → ℕ → Option ℕ → Image → Type 0
IsOneAhead half_len session sequence None image = IsFresh half_len session sequence image
IsOneAhead half_len session sequence (Some n) image =
    (3 ≤ n) × (n < 3 + 2 * half_len) × IsAhead session sequence (image n)
