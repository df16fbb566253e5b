-- What is known of one sector on the way over a record.
use Rattle.std.specs.Prelude.{◌≡◌, ◌==◌, ℕ, Bool, ◌+◌, ◌*◌, List, length, if◌then◌else◌}
use Rattle.dc_sectors.specs.declared.sector.Sector.{Sector}
use Rattle.dc_sectors.specs.declared.sector.Sector.TheVariants.{Bytes}
use Rattle.dc_sectors.specs.declared.pick.Pick.{Pick}
use Rattle.dc_sectors.specs.declared.pick.Pick.TheVariants.{Old, Written, Unreadable as Lost}
use Rattle.dc_sectors.specs.declared.scan.Scan.{Scan}
use Rattle.dc_sectors.specs.Disk.{Image, Choices}
use Rattle.dc_sectors.specs.Memory.{picked}

-- it says of sector n what these say
pub record IsScan (image : Image) (choices : Choices) (writes : ℕ → ℕ) (n : ℕ) (pick : Pick)
    (scan : Scan) : Type 0 where
  pub reads : image n ≡ scan.reads
  pub at_pick : picked (choices n) pick ≡ scan.at_pick
  pub count : writes n ≡ scan.writes
  pub many : length (choices n) ≡ 2 * scan.writes + 1

-- what the pick says after one more write
abbrev pub picked_next : ℕ → Sector → Sector → Pick → Sector
picked_next writes before bytes Old = before
picked_next writes before bytes (Written k) = if k == writes then bytes else before
picked_next writes before bytes Lost = before

pub record IsWritten (scan : Scan) (bytes : List ℕ) (is_done : Bool) (pick : Pick)
    (next : Scan) : Type 0 where
  pub reads : next.reads ≡ (if is_done then Bytes bytes else scan.reads)
  pub at_pick : next.at_pick ≡ picked_next scan.writes scan.at_pick (Bytes bytes) pick
  pub writes : next.writes ≡ scan.writes + 1
