-- A disk over a file, as contracts see it: its counts, and the calls of its file so far. No contract of the library
-- says which bytes a file returns. So the disk model is a hypothesis on these calls: each whole read returned what the
-- rule says of its sector after the writes before it.
use Rattle.std.specs.Prelude.{◌≡◌, ◌⊎◌, ◌==◌, ◌<◌, ℕ, Bool, true, false, ◌+◌, ◌-◌, ◌*◌, ◌/◌, ◌^◌}
use Rattle.std.specs.Prelude.{min, List, [], ◌∷◌, ◌++◌, length, Option, Some, None, Result, Ok, Err}
use Rattle.dc_sectors.specs.declared.sector.Sector.{Sector}
use Rattle.dc_sectors.specs.declared.sector.Sector.TheVariants.{Bytes, Unreadable}
use Rattle.dc_sectors.specs.declared.sector.ReadFault.{ReadFault}
use Rattle.dc_sectors.specs.declared.sector.ReadFault.TheVariants.{Unreadable as CannotRead}
use Rattle.dc_sectors.specs.declared.sector.ReadFault.TheVariants.{Failed as ReadFailed}
use Rattle.dc_sectors.specs.declared.sector.Failed.{Failed}
use Rattle.dc_sectors.specs.declared.event.Event.{Event}
use Rattle.dc_sectors.specs.declared.event.Event.TheVariants.{Write, Sync}
use Rattle.dc_sectors.specs.Disk.{Image, Choices, Counted}
use Rattle.dc_sectors.specs.Record.{image_of, reads_after, choices_after, ImageSince}
use Rattle.dc_sectors.specs.FileCalls.{Call, Measured, Got, Put, Synced}

-- the state of a disk over a file
pub record FileState : Type 0 where
  pub sectors : ℕ
  -- number of failures of the file; it saturates at 2 ^ 64 - 1
  pub failures : ℕ
  -- a sync failed: what was written since the last one may be lost, so that every later call fails
  pub lost : Bool
  -- what the sectors held before the first call: any value, of which nothing is known
  pub start : List Sector
  -- the calls of the file so far, the newest first
  pub calls : List Call

-- after one more failure
abbrev pub failed_once_more : FileState → FileState
failed_once_more disk = record disk { failures = min (disk.failures + 1) (2 ^ 64 - 1) }

-- A call keeps the number of sectors, and counts its failure.
abbrev pub FileCounts : FileState → FileState → Type 0 → Type 0
FileCounts = Counted (λ disk. disk.sectors) (λ disk. disk.failures)

-- The calls of a file that a call of the disk makes.

-- Opening asks for the length, and the disk has a sector for each 512 bytes of it, at most 2 ^ 32 - 1.
pub record IsOpened (before : List Call) (disk : FileState) : Type 0 where
  pub failures : disk.failures ≡ 0
  pub lost : disk.lost ≡ false
  pub bytes : ℕ
  pub calls : disk.calls ≡ Measured (Some bytes) ∷ before
  pub sectors : disk.sectors ≡ min (bytes / 512) (2 ^ 32 - 1)

-- all 512 bytes
abbrev pub is_all : Option ℕ → Bool
is_all (Some n) = n == 512
is_all None = false

-- fewer than 512 bytes came, or none for another reason than that the drive can't read them
abbrev pub IsShort : Result (List ℕ) ReadFault → Type 0
IsShort (Ok bytes) = length bytes < 512
IsShort (Err CannotRead) = ⊥
IsShort (Err ReadFailed) = Unit {0}

-- A read of sector n is one read of the file, of 512 bytes from byte 512 n on. It is Ok with these bytes where all
-- 512 came, and Unreadable where the drive can't read them. It fails where fewer or none came for another reason; and
-- where a sync failed before, then without a call of the file.
abbrev pub IsReadOf : FileState → ℕ → Result (List ℕ) ReadFault → List Call → Type 0
IsReadOf old n (Ok bytes) calls =
    (old.lost ≡ false) × (length bytes ≡ 512) × (calls ≡ Got (512 * n) 512 (Ok bytes) ∷ old.calls)
IsReadOf old n (Err ReadFailed) calls =
    ((old.lost ≡ true) × (calls ≡ old.calls))
    ⊎ ((got : Result (List ℕ) ReadFault) × (old.lost ≡ false) × IsShort got
    × (calls ≡ Got (512 * n) 512 got ∷ old.calls))
IsReadOf old n (Err CannotRead) calls =
    (old.lost ≡ false) × (calls ≡ Got (512 * n) 512 (Err CannotRead) ∷ old.calls)

-- A write of these bytes to sector n is one write of the file, from byte 512 n on. It is Ok where all 512 were taken.
-- It fails where fewer or none were taken; and where a sync failed before, then without a call of the file.
abbrev pub IsWriteOf : FileState → ℕ → List ℕ → Result (Unit {0}) Failed → List Call → Type 0
IsWriteOf old n bytes (Ok _) calls =
    (old.lost ≡ false) × (calls ≡ Put (512 * n) bytes (Some 512) ∷ old.calls)
IsWriteOf old n bytes (Err _) calls =
    ((old.lost ≡ true) × (calls ≡ old.calls))
    ⊎ ((taken : Option ℕ) × (old.lost ≡ false) × (is_all taken ≡ false)
    × (calls ≡ Put (512 * n) bytes taken ∷ old.calls))

-- A sync is one sync of the file, with its result; where one failed before, it fails without a call of the file.
abbrev pub IsSyncOf : FileState → Result (Unit {0}) Failed → List Call → Type 0
IsSyncOf old (Ok _) calls = (old.lost ≡ false) × (calls ≡ Synced true ∷ old.calls)
IsSyncOf old (Err _) calls = ((old.lost ≡ true) × (calls ≡ old.calls))
    ⊎ ((old.lost ≡ false) × (calls ≡ Synced false ∷ old.calls))

-- What the disk model states after these calls, from what the sectors held before the first.

-- what each sector held before the first call
abbrev pub start_of : FileState → Image
start_of disk = image_of disk.start

-- one more call: a write, done where all was taken, or a sync that succeeded
abbrev pub noted : List Event → Call → List Event
noted events (Put at bytes taken) = events ++ Write (at / 512) bytes (is_all taken) ∷ []
noted events (Synced true) = events ++ Sync ∷ []
noted events (Synced false) = events
noted events (Got at n came) = events
noted events (Measured n) = events

-- the writes and the syncs among these calls, the oldest first
abbrev pub events_of : List Call → List Event
events_of [] = []
events_of (call ∷ earlier) = noted (events_of earlier) call

-- what each sector reads after the calls so far
abbrev pub reads_in : FileState → Image
reads_in disk = reads_after (start_of disk) (events_of disk.calls)

-- the possible contents of each sector after a crash at this moment
abbrev pub choices_in : FileState → Choices
choices_in disk = choices_after (start_of disk) (events_of disk.calls)

-- the current moment: number of writes, failed ones included, and of successful syncs so far
abbrev pub moment_in : FileState → ℕ
moment_in disk = length (events_of disk.calls)

-- The other half of the hypothesis, which no call shows: after a crash at any moment of these calls
-- the file holds one of the images since moment 0, and that is the next disk's `start`.
abbrev pub images_in : FileState → ℕ → Image → Type 0
images_in disk = ImageSince (start_of disk) (events_of disk.calls)

-- THE HYPOTHESIS, of the file and of the system under it.

-- this call returned what the sectors read then
abbrev pub AnswersAs : Image → Call → Type 0
AnswersAs image (Got at n (Ok bytes)) =
    (m : ℕ) → at ≡ 512 * m → length bytes ≡ 512 → image m ≡ Bytes bytes
AnswersAs image (Got at n (Err CannotRead)) =
    (m : ℕ) → at ≡ 512 * m → n ≡ 512 → image m ≡ Unreadable
AnswersAs image (Got at n (Err ReadFailed)) = Unit {0}
AnswersAs image (Put at bytes taken) = Unit {0}
AnswersAs image (Synced done) = Unit {0}
AnswersAs image (Measured n) = Unit {0}

-- Each whole read of a sector returned what was last written to it and taken whole, or what it held at the start; and
-- the drive couldn't read only a sector that was unreadable at the start, with nothing taken whole since. A drive that
-- can't read a sector that was synced doesn't keep to this; nor does one of which a write that failed changes what the
-- sector reads before it is written again.
abbrev pub KeepsRule : Image → List Call → Type 0
KeepsRule start [] = Unit {0}
KeepsRule start (call ∷ earlier) =
    KeepsRule start earlier × AnswersAs (reads_after start (events_of earlier)) call

-- each whole read of this disk did
abbrev pub HasKept : FileState → Type 0
HasKept disk = KeepsRule (start_of disk) disk.calls

-- a disk of this many sectors just opened on a file that holds these
abbrev pub opened_on : ℕ → List Sector → FileState
opened_on sectors start = record {
  sectors = sectors;
  failures = 0;
  lost = false;
  start = start;
  calls = Measured (Some (512 * sectors)) ∷ [];
}
