-- How long a state's spelling is: its size, less the room that its last line doesn't take.
use Rattle.std.proofs.Common.{◌≡◌, ℕ, ◌+◌, ◌≤◌, List, [], ◌∷◌, ◌++◌, length, sum_by, ap, arith, length-append}
use Rattle.std.specs.List.{flat_map}
use Rattle.std.specs.Map.{values_of}
use Rattle.std.proofs.lemmas.List.Concat.{length-flat_map, flat_map-cons}
use Rattle.std.proofs.lemmas.List.Sums.{sum_by-cons}
use Rattle.byteorder.specs.Numbers.{length-bytes_low_first}
use Rattle.dc_address.specs.declared.identity.Identity.{Identity}
use Rattle.dc_address.specs.Identity.{wire_of}
use Rattle.dc_address.proofs.Identities.{length-wire_of}
use Rattle.mbdc_change.specs.State.{State, MeterRow, PartRow, ReadingRow}
use Rattle.mbdc_change.specs.Pieces.{long_bytes, count_bytes, byte, counted, address_byte}
use Rattle.mbdc_change.specs.Encoding.{part_bytes, parts_bytes, meter_bytes, reading_bytes, head_bytes, meters_bytes, readings_bytes, state_bytes}
use Rattle.mbdc_change.specs.Size.{part_size, parts_size, meter_size, reading_size, size_of}
use Rattle.mbdc_change.specs.Valid.{IsState}

pub length-long_bytes : (n : ℕ) → length (long_bytes n) ≡ 8
unfolding long_bytes
length-long_bytes n = length-bytes_low_first 0 8 n

pub length-count_bytes : (n : ℕ) → length (count_bytes n) ≡ 4
unfolding count_bytes
length-count_bytes n = length-bytes_low_first 0 4 n

pub length-byte : (value : ℕ) → length (byte value) ≡ 1
unfolding byte
length-byte value = omega arith

pub length-counted : (bytes : List ℕ) → length (counted bytes) ≡ 1 + length bytes
unfolding counted
length-counted bytes = omega (arith, length-append (byte (length bytes)) bytes, length-byte (length bytes))

pub length-part_bytes : (part : PartRow) → length (part_bytes part) ≡ part_size part
unfolding part_bytes
length-part_bytes part = omega (arith, length-append (long_bytes part.moment) (counted part.body), length-long_bytes part.moment, length-counted part.body)

-- the lengths of pieces add up
length-pieces : {X : Type 0} (f : X → List ℕ) (size : X → ℕ) → ((x : X) → length (f x) ≡ size x) → (xs : List X) → length (flat_map f xs) ≡ sum_by size xs
length-pieces f size each [] = omega (arith, length-flat_map f [])
length-pieces f size each (x ∷ xs) =
    omega (arith, ap length (flat_map-cons f x xs), length-append (f x) (flat_map f xs), each x, length-pieces f size each xs, sum_by-cons size x xs)

pub length-parts_bytes : (parts : List PartRow) → length (parts_bytes parts) ≡ 1 + parts_size parts
unfolding parts_bytes
length-parts_bytes parts =
    omega (arith, length-append (byte (length parts)) (flat_map part_bytes parts), length-byte (length parts), length-pieces part_bytes part_size length-part_bytes parts)

pub length-meter_bytes : (e : Identity × MeterRow) → length (meter_bytes e) ≡ meter_size e.1
unfolding meter_bytes
length-meter_bytes e =
    let line = byte e.1.line in
    let address = byte (address_byte e.1.address) in
    let flat = counted e.1.flat in
    let parts = parts_bytes e.1.parts in
    let both = length-append (wire_of e.0) line in
    let three = length-append (wire_of e.0 ++ line) address in
    let four = length-append ((wire_of e.0 ++ line) ++ address) flat in
    let five = length-append (((wire_of e.0 ++ line) ++ address) ++ flat) parts in
    omega (arith, both, three, four, five, length-wire_of e.0, length-byte e.1.line, length-byte (address_byte e.1.address), length-counted e.1.flat, length-parts_bytes e.1.parts)

pub length-reading_bytes : (r : ReadingRow) → length (reading_bytes r) ≡ reading_size r
unfolding reading_bytes
length-reading_bytes r =
    let serial = long_bytes r.serial in
    let flat = counted r.flat in
    let parts = parts_bytes r.parts in
    let both = length-append serial (wire_of r.meter) in
    let three = length-append (serial ++ wire_of r.meter) flat in
    let four = length-append ((serial ++ wire_of r.meter) ++ flat) parts in
    omega (arith, both, three, four, length-wire_of r.meter, length-long_bytes r.serial, length-counted r.flat, length-parts_bytes r.parts)

pub length-head_bytes : (s : State) → length (head_bytes s) ≡ 25 + length s.last_line
length-head_bytes s =
    let next = long_bytes s.next_serial in
    let confirmed = long_bytes s.confirmed in
    let number = long_bytes s.last_number in
    let line = counted s.last_line in
    let both = length-append next confirmed in
    let three = length-append (next ++ confirmed) number in
    let four = length-append ((next ++ confirmed) ++ number) line in
    omega (arith, both, three, four, length-long_bytes s.next_serial, length-long_bytes s.confirmed, length-long_bytes s.last_number, length-counted s.last_line)

-- the sizes of the meters, whatever their identities
sum-of_values : (meters : List (Identity × MeterRow)) → sum_by (λ (e : Identity × MeterRow). meter_size e.1) meters ≡ sum_by meter_size (values_of meters)
sum-of_values [] = omega arith
sum-of_values (e ∷ meters) =
    omega (arith, sum_by-cons (λ (e : Identity × MeterRow). meter_size e.1) e meters, sum_by-cons meter_size e.1 (values_of meters), sum-of_values meters)

pub length-meters_bytes : (meters : List (Identity × MeterRow)) → length (meters_bytes meters) ≡ 4 + sum_by meter_size (values_of meters)
length-meters_bytes meters =
    omega (
      arith,
      length-append (count_bytes (length meters)) (flat_map meter_bytes meters),
      length-count_bytes (length meters),
      length-pieces meter_bytes (λ (e : Identity × MeterRow). meter_size e.1) length-meter_bytes meters,
      sum-of_values meters,
    )

pub length-readings_bytes : (readings : List ReadingRow) → length (readings_bytes readings) ≡ 4 + sum_by reading_size readings
length-readings_bytes readings =
    omega (arith, length-append (count_bytes (length readings)) (flat_map reading_bytes readings), length-count_bytes (length readings), length-pieces reading_bytes reading_size length-reading_bytes readings)

-- ---- a state

-- the size counts 120 bytes for the last line, the spelling those that it has
pub state_len : (s : State) → length (state_bytes s) + 120 ≡ size_of s + length s.last_line
state_len s =
    let most = length-append (head_bytes s) (meters_bytes s.meters) in
    let all = length-append (head_bytes s ++ meters_bytes s.meters) (readings_bytes s.readings) in
    omega (arith, most, all, length-head_bytes s, length-meters_bytes s.meters, length-readings_bytes s.readings)

-- the spelling of a state fits its budget
pub state_fits : {budget : ℕ} {s : State} → IsState budget s → length (state_bytes s) ≤ budget
state_fits {budget} {s} is = omega (arith, state_len s, is.size_fits, is.line_fits)

-- the shortest is that of the empty state
pub state_some : (s : State) → 33 ≤ length (state_bytes s)
state_some s = omega (arith, state_len s)

-- how long a state is spelled
pub ruleset state_sized = (state_len, state_fits, state_some)
