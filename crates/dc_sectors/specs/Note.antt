-- A call as the record of a file has it: numbers and bytes.
use Rattle.std.specs.Prelude.{ℕ, zero, suc, ◌==◌, if◌then◌else◌, List, [], ◌∷◌, slice_index, Some}
use Rattle.std.specs.Prelude.{None, Result, Ok, Err}
use Rattle.dc_sectors.specs.declared.sector.ReadFault.{ReadFault}
use Rattle.dc_sectors.specs.declared.sector.ReadFault.TheVariants.{Unreadable, Failed}
use Rattle.dc_sectors.specs.FileCalls.{Call, Measured, Got, Put, Synced}

abbrev pub Note : Type 0
Note = List ℕ × List ℕ

-- the bytes read (1), unreadable (2), or another failure
abbrev pub got_by : ℕ → List ℕ → Result (List ℕ) ReadFault
got_by ok bytes = if ok == 1 then Ok bytes else if ok == 2 then Err Unreadable else Err Failed

-- which call, its place, a count and whether it succeeded (1), and its bytes
abbrev pub call_by : ℕ → ℕ → ℕ → ℕ → List ℕ → Call
call_by zero at n ok bytes = Measured (if ok == 1 then Some n else None)
call_by (suc zero) at n ok bytes = Got at n (got_by ok bytes)
call_by (suc (suc zero)) at n ok bytes = Put at bytes (if ok == 1 then Some n else None)
call_by (suc (suc (suc more))) at n ok bytes = Synced (ok == 1)

abbrev pub call_of : Note → Call
call_of note = call_by (slice_index note.0 0) (slice_index note.0 1) (slice_index note.0 2)
    (slice_index note.0 3) note.1

abbrev pub calls_of : List Note → List Call
calls_of [] = []
calls_of (note ∷ earlier) = call_of note ∷ calls_of earlier
