-- A disk in memory, as contracts see it: the image that its record began with, the record, and the
-- failures that a test sets.
use Rattle.std.specs.Prelude.{◌≡◌, ◌⊎◌, ◌==◌, ◌<◌, ◌≤◌, ◌+◌, ◌*◌, ◌^◌, ℕ, zero, suc, slice_index_or}
use Rattle.std.specs.Prelude.{List, [], ◌∷◌, true, false, ◌++◌, length, replicate, if◌then◌else◌}
use Rattle.std.specs.Prelude.{None, Result, Ok, Err}
use Rattle.dc_sectors.specs.declared.sector.Sector.{Sector}
use Rattle.dc_sectors.specs.declared.sector.Sector.TheVariants.{Bytes, Unreadable}
use Rattle.dc_sectors.specs.declared.sector.ReadFault.{ReadFault}
use Rattle.dc_sectors.specs.declared.sector.ReadFault.TheVariants.{Unreadable as CannotRead}
use Rattle.dc_sectors.specs.declared.sector.ReadFault.TheVariants.{Failed as ReadFailed}
use Rattle.dc_sectors.specs.declared.sector.Failed.{Failed}
use Rattle.dc_sectors.specs.declared.calls.Calls.{Calls}
use Rattle.dc_sectors.specs.declared.event.Event.{Event}
use Rattle.dc_sectors.specs.declared.event.Event.TheVariants.{Write, Sync}
use Rattle.dc_sectors.specs.declared.pick.Pick.{Pick}
use Rattle.dc_sectors.specs.declared.pick.Pick.TheVariants.{Old, Written, Unreadable as Lost}
use Rattle.dc_sectors.specs.Calls.{passes, counted, failed_once_more}
use Rattle.dc_sectors.specs.Disk.{Image, Choices, Counted}
use Rattle.dc_sectors.specs.Record.{image_of, reads_after, choices_after, writes_after}

pub record Memory : Type 0 where
  -- what each sector read when the record began: zeros, or the contents after a crash
  pub start : List Sector
  -- each write, including those that a test made fail, and each sync that succeeded
  pub events : List Event
  -- number of events for which the record has memory
  pub capacity : ℕ
  -- the calls so far, and the failures that a test set
  pub calls : Calls

-- a new disk, of zeros
abbrev pub blank : ℕ → Memory
blank count = record {
  start = replicate count (Bytes (replicate 512 0));
  events = [];
  capacity = 0;
  calls = record { made = 0; failed = 0; fuse = None; fails_at = None };
}

-- the result of a read of a sector, if the call passes
abbrev pub answer_of : Sector → Result (List ℕ) ReadFault
answer_of (Bytes bytes) = Ok bytes
answer_of Unreadable = Err CannotRead

abbrev pub reads_of : Memory → Image
reads_of disk = reads_after (image_of disk.start) disk.events

abbrev pub choices_of : Memory → Choices
choices_of disk = choices_after (image_of disk.start) disk.events

-- A call passes, or fails because a test makes it fail, or because the record is full and no memory
-- is available.

abbrev pub after_pass : Memory → Memory
after_pass disk = record disk { calls = counted disk.calls }

abbrev pub after_failure : Memory → Memory
after_failure disk = record disk { calls = failed_once_more (counted disk.calls) }

-- the disk after this event, in a record that may have grown
abbrev pub recorded : Memory → Event → Memory → Memory
recorded disk event new = record disk {
  events = disk.events ++ event ∷ [];
  capacity = new.capacity;
}

-- the record has no memory for another event
abbrev pub IsFull : Memory → Type 0
IsFull disk = disk.capacity ≤ length disk.events

-- a call keeps the number of sectors, and counts its failure
abbrev pub MemoryCounts : Memory → Memory → Type 0 → Type 0
MemoryCounts = Counted (λ disk. length disk.start) (λ disk. disk.calls.failed)

-- a read takes no memory
abbrev pub IsRead : Memory → ℕ → Result (List ℕ) ReadFault → Memory → Type 0
IsRead old n result new =
    (result ≡ (if passes old.calls then answer_of (reads_of old n) else Err ReadFailed))
    × (new ≡ (if passes old.calls then after_pass old else after_failure old))

-- A write that a test makes fail is recorded. A write isn't recorded only if the record is full.
abbrev pub IsWrite : Memory → ℕ → List ℕ → Result (Unit {0}) Failed → Memory → Type 0
IsWrite old n bytes (Ok _) new = (passes old.calls ≡ true)
    × (new ≡ recorded (after_pass old) (Write n bytes true) new)
IsWrite old n bytes (Err _) new =
    ((passes old.calls ≡ false) × (new ≡ recorded (after_failure old) (Write n bytes false) new))
    ⊎ (IsFull old × (new ≡ record (after_failure old) { capacity = new.capacity }))

-- A sync that fails isn't recorded: a test makes it fail, or the record is full.
abbrev pub IsSync : Memory → Result (Unit {0}) Failed → Memory → Type 0
IsSync old (Ok _) new = (passes old.calls ≡ true) × (new ≡ recorded (after_pass old) Sync new)
IsSync old (Err _) new = ((passes old.calls ≡ false) ⊎ IsFull old)
    × (new ≡ record (after_failure old) { capacity = new.capacity })

-- the sectors below n that were written since the sync, ascending, each with its number of writes
abbrev pub pending_below : (ℕ → ℕ) → ℕ → List (ℕ × ℕ)
pending_below writes zero = []
pending_below writes (suc n) = pending_below writes n
    ++ (if writes n == 0 then [] else (n, writes n) ∷ [])

abbrev pub pending_of : Memory → List (ℕ × ℕ)
pending_of disk = pending_below (writes_after disk.events) (length disk.start)

-- a pick names an existing write, counted from 0
abbrev pub IsPickFor : ℕ × ℕ → Pick → Type 0
IsPickFor (n, writes) Old = Unit {0}
IsPickFor (n, writes) (Written k) = k < writes
IsPickFor (n, writes) Lost = Unit {0}

-- what a pick says of a sector with these possible contents: what it read at the sync, and then for each write
-- its bytes and Unreadable
abbrev pub picked : List Sector → Pick → Sector
picked choices Old = slice_index_or choices 0 Unreadable
picked choices (Written k) = slice_index_or choices (2 * k + 1) Unreadable
picked choices Lost = Unreadable

-- the image that the picks say, one for each pending sector, ascending; the others stay
abbrev pub picked_from : Image → List Event → List Pick → Image
picked_from start events picks = λ n.
    if writes_after events n == 0 then reads_after start events n
    else picked (choices_after start events n)
    (slice_index_or picks (length (pending_below (writes_after events) n)) Old)

abbrev pub image_picked : Memory → List Pick → Image
image_picked disk picks = picked_from (image_of disk.start) disk.events picks

-- how often each sector was written; none past the last
abbrev pub counts_of : List ℕ → ℕ → ℕ
counts_of writes = λ n. slice_index_or writes n 0

-- what the fields of a disk in memory are to each other: the sectors as they read now, and how often
-- each was written since the sync, are what the record says
pub record IsKept (start reads : List Sector) (writes : List ℕ) (events : List Event) : Type 0 where
  pub reading : image_of reads ≡ reads_after (image_of start) events
  pub written : counts_of writes ≡ writes_after events
  pub reads_length : length reads ≡ length start
  pub writes_length : length writes ≡ length start
  pub small : length start < 2 ^ 32
