-- The calls of a file that a disk over it makes, with their results.
use Rattle.std.specs.Prelude.{ℕ, Bool, List, take, Option, Some, None, Result, Ok, Err}
use Rattle.dc_sectors.specs.declared.sector.ReadFault.{ReadFault}

-- a call with its result
pub data Call : Type 0 where
  -- the file's length in bytes; `None` if the call failed
  Measured : Option ℕ → Call
  -- a read of this many bytes from this byte on, and the bytes read, which may be fewer; `Unreadable` where the drive
  -- can't read them (EIO of POSIX), `Failed` at any other error
  Got : ℕ → ℕ → Result (List ℕ) ReadFault → Call
  -- a write of these bytes from this byte on, and the number of bytes written
  Put : ℕ → List ℕ → Option ℕ → Call
  -- a sync, and whether it succeeded
  Synced : Bool → Call

-- the value of a call that succeeded
abbrev pub value_of : {T E : Type 0} → Result T E → Option T
value_of (Ok x) = Some x
value_of (Err e) = None

-- the bytes that a successful read put into a buffer, or why none came
abbrev pub came : Result ℕ ReadFault → List ℕ → Result (List ℕ) ReadFault
came (Ok n) buffer = Ok (take n buffer)
came (Err fault) buffer = Err fault
