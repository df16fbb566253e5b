-- What a change does to the size of a state.
use Rattle.std.proofs.Common.{◌≡◌, ℕ, ◌+◌, ◌≤◌, List, [], ◌∷◌, ◌++◌, length, sum_by, Option, Some, None, Bool, true, false, cond, sym, ap, ◌∙◌, arith, ◌-◌}
use Rattle.std.specs.Prelude.{◌==◌, if◌then◌else◌}
use Rattle.std.specs.Option.{unwrap_or, option_map}
use Rattle.std.specs.Map.{keys_of, values_of}
use Rattle.std.specs.BTreeMap.{is_at}
use Rattle.std.specs.List.Sorted.{IsStrictlySortedBy}
use Rattle.std.proofs.lemmas.List.Sums.{sum_by-append, sum_by-cons}
use Rattle.std.proofs.lemmas.Map.Entries.{sum_by-set_value, sum_by-insert_entry, sum_by-remove_entry, length-values_of}
use Rattle.dc_address.specs.declared.identity.Identity.{Identity}
use Rattle.dc_address.specs.Identity.{identity_cmp}
use Rattle.dc_address.proofs.Order.{identities_total}
use Rattle.mbdc_change.specs.Body.{BodyRow}
use Rattle.mbdc_change.specs.State.{State, MeterRow, PartRow, ReadingRow, row_of}
use Rattle.mbdc_change.specs.Size.{part_size, parts_size, meter_size, reading_size, size_of}
use Rattle.mbdc_change.specs.Apply.{with_row, joined, heard, told, moved, fitted, taken_out}

-- a row written over
pub size_of-with_row : (meter : Identity) (old new : MeterRow) (s : State) → row_of meter s ≡ Some old
    → size_of (with_row meter new s) + meter_size old ≡ size_of s + meter_size new
size_of-with_row meter old new s found = omega (arith, sum_by-set_value meter_size (is_at (identity_cmp meter)) s.meters old new found)

-- a row more
pub size_of-fitted : (meter : Identity) (row : MeterRow) (s : State) → IsStrictlySortedBy identity_cmp (keys_of s.meters) → row_of meter s ≡ None
    → size_of (fitted meter row s) ≡ size_of s + meter_size row
size_of-fitted meter row s sorted absent =
    omega (arith, sum_by-insert_entry meter_size identities_total s.meters meter row sorted, ap (λ (f : Option MeterRow). unwrap_or (option_map meter_size f) 0) absent)

-- a row less
pub size_of-taken_out : (meter : Identity) (row : MeterRow) (s : State) → row_of meter s ≡ Some row
    → size_of (taken_out meter s) + meter_size row ≡ size_of s
size_of-taken_out meter row s found =
    omega (arith, sum_by-remove_entry meter_size (is_at (identity_cmp meter)) s.meters, ap (λ (f : Option MeterRow). unwrap_or (option_map meter_size f) 0) found)

-- no row is larger than all of them
pub meter_size-le : (meter : Identity) (row : MeterRow) (s : State) → row_of meter s ≡ Some row → meter_size row + 153 ≤ size_of s
meter_size-le meter row s found = omega (arith, size_of-taken_out meter row s found)

-- a reading more
pub size_of-read : (reading : ReadingRow) (serial : ℕ) (s : State)
    → size_of (record s { readings = s.readings ++ reading ∷ []; next_serial = serial }) ≡ size_of s + reading_size reading
size_of-read reading serial s = omega (arith, sum_by-append reading_size s.readings (reading ∷ []))

-- a telegram that isn't the last
pub size_of-heard_open : (meter : Identity) (number : ℕ) (part : PartRow) (row : MeterRow) (s : State) → row_of meter s ≡ Some row
    → size_of (heard meter true number part (Some row) s) + parts_size row.parts ≡ size_of s + parts_size (joined number part row.parts)
size_of-heard_open meter number part row s found =
    omega (arith, size_of-with_row meter row (record row { parts = joined number part row.parts }) s found)

-- the last
pub size_of-heard_last : (meter : Identity) (number : ℕ) (part : PartRow) (row : MeterRow) (s : State) → row_of meter s ≡ Some row
    → size_of (heard meter false number part (Some row) s) + parts_size row.parts ≡ size_of s + (18 + length row.flat + parts_size (joined number part row.parts))
size_of-heard_last meter number part row s found =
    omega (arith, size_of-with_row meter row (record row { parts = [] }) s found, sum_by-append reading_size s.readings (record { serial = s.next_serial; meter = meter; flat = row.flat; parts = joined number part row.parts } ∷ []))

-- ---- a telegram's size from its meter's row

pub parts_size-joined : (number : ℕ) (part : PartRow) (parts : List PartRow) → parts_size (joined number part parts) ≡ (if number == 1 then 0 else parts_size parts) + part_size part
parts_size-joined number part parts =
    elim (number == 1) as (λ b. parts_size (cond b (part ∷ []) (parts ++ part ∷ [])) ≡ cond b 0 (parts_size parts) + part_size part)
    [ true ↦ omega (arith, sum_by-append part_size [] (part ∷ [])) | false ↦ sum_by-append part_size parts (part ∷ []) ∙ omega arith ]

both_parts : (b : Bool) (n : ℕ) → cond b n 0 + cond b 0 n ≡ n
both_parts true n = omega arith
both_parts false n = omega arith

size_of-heard : (meter : Identity) (more : Bool) (number : ℕ) (part : PartRow) (row : MeterRow) (s : State) → row_of meter s ≡ Some row
    → (size_of s - (if number == 1 then parts_size row.parts else 0)) + part_size part + (if more then 0 else 18 + length row.flat) ≡ size_of (heard meter more number part (Some row) s)
size_of-heard meter true number part row s found =
    omega (arith, size_of-heard_open meter number part row s found, parts_size-joined number part row.parts, both_parts (number == 1) (parts_size row.parts), meter_size-le meter row s found)
size_of-heard meter false number part row s found =
    omega (arith, size_of-heard_last meter number part row s found, parts_size-joined number part row.parts, both_parts (number == 1) (parts_size row.parts), meter_size-le meter row s found)

pub size_of-told : (part moment : ℕ) (body : BodyRow) (row : MeterRow) (s : State) (size dropped grown read : ℕ) → row_of body.meter s ≡ Some row → size ≡ size_of s
    → dropped ≡ (if part == 1 then parts_size row.parts else 0) → grown ≡ 9 + length body.bytes → read ≡ (if body.more then 0 else 18 + length row.flat)
    → (size - dropped) + grown + read ≡ size_of (told part moment body s)
size_of-told part moment body row s size dropped grown read found size_is dropped_is grown_is read_is =
    let kept : PartRow = record { moment = moment; body = body.bytes } in
    let target : size_of (told part moment body s) ≡ size_of (heard body.meter body.more part kept (Some row) s) = ap (λ (o : Option MeterRow). size_of (heard body.meter body.more part kept o s)) found in
    rw (size_is, dropped_is, grown_is, read_is) (size_of-heard body.meter body.more part kept row s found ∙ sym target)

pub dropped-le : (part : ℕ) (meter : Identity) (row : MeterRow) (s : State) → row_of meter s ≡ Some row → (if part == 1 then parts_size row.parts else 0) ≤ size_of s
dropped-le part meter row s found = omega (arith, both_parts (part == 1) (parts_size row.parts), meter_size-le meter row s found)

-- ---- a flat's size

pub size_of-moved : (meter : Identity) (flat : List ℕ) (row : MeterRow) (s : State) → row_of meter s ≡ Some row → (size_of s - length row.flat) + length flat ≡ size_of (moved meter flat (Some row) s)
size_of-moved meter flat row s found = omega (arith, size_of-with_row meter row (record row { flat = flat }) s found, meter_size-le meter row s found)

-- ---- counts

count-le_sum : {X : Type 0} (f : X → ℕ) → ((x : X) → 1 ≤ f x) → (xs : List X) → length xs ≤ sum_by f xs
count-le_sum f one [] = omega arith
count-le_sum f one (x ∷ xs) = omega (arith, sum_by-cons f x xs, one x, count-le_sum f one xs)

-- there are no more meters and readings than bytes
pub meters-le : (s : State) → length s.meters ≤ size_of s
meters-le s = omega (arith, count-le_sum meter_size (λ m. omega arith) (values_of s.meters), length-values_of s.meters)

pub readings-le : (s : State) → length s.readings ≤ size_of s
readings-le s = omega (arith, count-le_sum reading_size (λ r. omega arith) s.readings)
