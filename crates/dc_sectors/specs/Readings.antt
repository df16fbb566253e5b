-- Readings of the sectors of a file, as calls of the file (this product).
use Rattle.std.specs.Prelude.{◌≡◌, ◌≢◌, ◌<◌, ◌*◌, ℕ, List, [], ◌∷◌, ◌++◌, Option, Some, None}
use Rattle.std.specs.Prelude.{Result, Ok, Err}
use Rattle.std.specs.List.{All}
use Rattle.dc_sectors.specs.File.{FileState}
use Rattle.dc_sectors.specs.FileCalls.{Call, Got, Measured, Put, Synced}
use Rattle.dc_sectors.specs.declared.sector.Sector.{Sector}
use Rattle.dc_sectors.specs.declared.sector.Sector.TheVariants.{Bytes, Unreadable}
use Rattle.dc_sectors.specs.declared.sector.ReadFault.{ReadFault}
use Rattle.dc_sectors.specs.declared.sector.ReadFault.TheVariants.{Unreadable as CannotRead}
use Rattle.dc_sectors.specs.declared.sector.ReadFault.TheVariants.{Failed}

-- a sector, and what it gave
abbrev pub Reading : Type 0
Reading = ℕ × Sector

-- what a sector gave, by the answer of a disk
abbrev pub given : Result (List ℕ) ReadFault → Option Sector
given (Ok bytes) = Some (Bytes bytes)
given (Err CannotRead) = Some Unreadable
given (Err Failed) = None

-- the call that a reading is
abbrev pub call_of : ℕ → Sector → Call
call_of n (Bytes bytes) = Got (512 * n) 512 (Ok bytes)
call_of n Unreadable = Got (512 * n) 512 (Err CannotRead)

-- the calls after these readings, the newest first
abbrev pub calls_after : List Reading → List Call → List Call
calls_after [] before = before
calls_after (reading ∷ later) before = calls_after later (call_of reading.0 reading.1 ∷ before)

-- what the file was last measured as
abbrev pub measured : List Call → Option ℕ
measured [] = None
measured (Measured bytes ∷ earlier) = bytes
measured (Got at n came ∷ earlier) = measured earlier
measured (Put at bytes taken ∷ earlier) = measured earlier
measured (Synced done ∷ earlier) = measured earlier

-- Nothing was called since the file was measured but these readings, each of a sector of the disk.
pub record IsSampled (kept : List Reading) (disk : FileState) : Type 0 where
  pub calls : disk.calls ≡ calls_after kept (Measured (measured disk.calls) ∷ [])
  pub within : All (λ reading. reading.0 < disk.sectors) kept

-- THE READINGS STAND: each was made again, once, and gave the same.
abbrev pub StandsAgain : List Reading → List Call → List Call → Type 0
StandsAgain kept old new = new ≡ calls_after kept old

-- One of them gave something else, and those before it the same.
pub record HasChanged (kept : List Reading) (old new : List Call) : Type 0 where
  pub same : List Reading
  pub n : ℕ
  pub was : Sector
  pub is : Sector
  pub later : List Reading
  pub kept_is : kept ≡ same ++ (n, was) ∷ later
  pub differs : was ≢ is
  pub calls : new ≡ call_of n is ∷ calls_after same old
