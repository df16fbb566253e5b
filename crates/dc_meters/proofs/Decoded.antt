-- A house that is read from bytes, and the bytes from which none is.
use Rattle.std.proofs.Common.{◌≡◌, ℕ, ◌^◌, ◌+◌, ◌≤◌, ◌<◌, List, [], ◌++◌, length, Some, None, sym, ap, subst, ◌∙◌, arith, length-append}
use Rattle.std.proofs.lemmas.List.Elements.{All-weaker}
use Rattle.dc_address.specs.declared.identity.Identity.{Identity}
use Rattle.mbdc_change.specs.State.{State, MeterRow, ReadingRow}
use Rattle.mbdc_change.specs.Size.{size_of}
use Rattle.mbdc_change.specs.Valid.{IsState, IsReading}
use Rattle.dc_meters.specs.Kept.{IsKept}
use Rattle.mbdc_change.specs.Order.{MetersAscend, ReadingsAscend}
use Rattle.mbdc_change.specs.Pieces.{long_bytes, counted}
use Rattle.mbdc_change.proofs.Lengths.{length-counted, state_len}
use Rattle.mbdc_change.specs.Spelled.{SpellsState}
use Rattle.mbdc_change.specs.Pieces.{listed, count_at}
use Rattle.mbdc_change.specs.Reading.{entry_at, reading_at, Head, head_of, head_at}
use Rattle.mbdc_change.proofs.Exact.{IsBytes, some_is}
use Rattle.mbdc_change.proofs.StateSpellings.{Exact-head, Reads, reads_takes, reads_again, values_are, IsSpelledReading}

-- ---- what is left to read of a state

-- after the head
pub record LeftOf (s : State) (head : Head) (rest : List ℕ) : Type 0 where
  pub head_is : head_of s ≡ head
  pub after_meters : List ℕ
  pub meters : listed count_at entry_at rest ≡ Some (s.meters, after_meters)
  pub readings : listed count_at reading_at after_meters ≡ Some (s.readings, [])

pub behind_head : (budget : ℕ) (bytes : List ℕ) (s : State) (head : Head) (rest : List ℕ) → budget < 2 ^ 32 → SpellsState budget bytes s → head_at bytes ≡ Some (head, rest) → LeftOf s head rest
behind_head budget bytes s head rest narrow spells found =
    let read = reads_again budget bytes s narrow spells in
    let same : (head_of s, read.after_head) ≡ (head, rest) = some_is (head_of s, read.after_head) (head, rest) (sym read.head ∙ found) in
    record {
      head_is = ap (λ (p : Head × List ℕ). p.0) same;
      after_meters = read.after_meters;
      meters = ap (λ (p : Head × List ℕ). listed count_at entry_at p.1) (sym same) ∙ read.meters;
      readings = read.readings;
    }

pub no_head : (budget : ℕ) (bytes : List ℕ) (s : State) → budget < 2 ^ 32 → SpellsState budget bytes s → head_at bytes ≡ None → ⊥
no_head budget bytes s narrow spells none = let read = (reads_again budget bytes s narrow spells).head in cc

pub too_large : (budget : ℕ) (bytes : List ℕ) (s : State) (head : Head) (rest : List ℕ) → SpellsState budget bytes s → LeftOf s head rest → length bytes + 120 ≤ budget + length head.last_line
too_large budget bytes s head rest spells left =
    omega (arith, state_len s, spells.is_state.size_fits, ap length spells.spelled, ap (λ (h : Head). length h.last_line) left.head_is)

-- after the meters
pub behind_meters : (s : State) (head : Head) (rest : List ℕ) (meters : List (Identity × MeterRow)) (after : List ℕ) → LeftOf s head rest → listed count_at entry_at rest ≡ Some (meters, after)
    → listed count_at reading_at after ≡ Some (s.readings, [])
behind_meters s head rest meters after left found =
    let same : (s.meters, left.after_meters) ≡ (meters, after) = some_is (s.meters, left.after_meters) (meters, after) (sym left.meters ∙ found) in
    ap (λ (p : List (Identity × MeterRow) × List ℕ). listed count_at reading_at p.1) (sym same) ∙ left.readings

pub ascend_of : (budget : ℕ) (s : State) (head : Head) → IsState budget s → head_of s ≡ head → ReadingsAscend head.confirmed head.next_serial s.readings
ascend_of budget s head is same =
    subst (λ (h : Head). ReadingsAscend h.confirmed h.next_serial s.readings) same (record { ascend = is.readings_ascend; are_open = is.serials_are })

-- after the readings is nothing
pub behind_readings : (readings : List ReadingRow) (found : List ReadingRow) (after rest : List ℕ) → listed count_at reading_at after ≡ Some (readings, []) → listed count_at reading_at after ≡ Some (found, rest) → rest ≡ []
behind_readings readings found after rest whole read =
    ap (λ (p : List ReadingRow × List ℕ). p.1) (some_is (found, rest) (readings, []) (sym read ∙ whole))

-- ---- a state that was read

abbrev pub state_with : Head → List (Identity × MeterRow) → List ReadingRow → State
state_with head meters readings =
    record { meters = meters; readings = readings; next_serial = head.next_serial; confirmed = head.confirmed; last_number = head.last_number; last_line = head.last_line }

-- what was read, piece by piece
pub record IsRead (bytes : List ℕ) (head : Head) (meters : List (Identity × MeterRow)) (readings : List ReadingRow) : Type 0 where
  pub after_head : List ℕ
  pub after_meters : List ℕ
  pub head_read : head_at bytes ≡ Some (head, after_head)
  pub meters_read : listed count_at entry_at after_head ≡ Some (meters, after_meters)
  pub readings_read : listed count_at reading_at after_meters ≡ Some (readings, [])
  pub meters_ascend : MetersAscend meters
  pub readings_ascend : ReadingsAscend head.confirmed head.next_serial readings

pub record IsDecoded (budget size : ℕ) (bytes : List ℕ) (s : State) : Type 0 where
  pub kept : IsKept size budget s
  pub spells : SpellsState budget bytes s

pub decoded : (budget size : ℕ) (bytes : List ℕ) (head : Head) (meters : List (Identity × MeterRow)) (readings : List ReadingRow) → IsBytes bytes → IsRead bytes head meters readings
    → size + length head.last_line ≡ length bytes + 120 → size ≤ budget → IsDecoded budget size bytes (state_with head meters readings)
decoded budget size bytes head meters readings are read size_is fits =
    let s = state_with head meters readings in
    let all : Reads bytes s = record { after_head = read.after_head; after_meters = read.after_meters; head = read.head_read; meters = read.meters_read; readings = read.readings_read } in
    let pieces = reads_takes bytes s are all in
    let size_same : size ≡ size_of s = omega (arith, size_is, state_len s, ap length pieces.0) in
    let is_state : IsState budget s = record {
      meters_ascend = read.meters_ascend;
      meters_are = values_are meters pieces.1.meters_are;
      readings_ascend = read.readings_ascend.ascend;
      readings_are = All-weaker IsSpelledReading IsReading (λ (r : ReadingRow) is. is.is) readings pieces.1.readings_are;
      serials_are = read.readings_ascend.are_open;
      next_fits = pieces.1.head_is.next_fits;
      confirmed_fits = pieces.1.head_is.confirmed_fits;
      number_fits = pieces.1.head_is.number_fits;
      line_fits = pieces.1.head_is.line_fits;
      size_fits = omega (arith, size_same, fits);
    } in
    record { kept = record { size_is = size_same; state_is = is_state }; spells = record { spelled = pieces.0; is_state = is_state } }

-- ---- the last line that was read

pub record IsLineWithin (bytes : List ℕ) (line : List ℕ) : Type 0 where
  pub short : length line ≤ 120
  pub within : length line ≤ length bytes

pub line_within : (bytes : List ℕ) (head : Head) (rest : List ℕ) → IsBytes bytes → head_at bytes ≡ Some (head, rest) → IsLineWithin bytes head.last_line
line_within bytes head rest are found =
    let taken = Exact-head.takes bytes head rest are found in
    let front : List ℕ = (long_bytes head.next_serial ++ long_bytes head.confirmed) ++ long_bytes head.last_number in
    record {
      short = taken.is.line_fits;
      within = omega (arith, ap length taken.spelled, length-append (front ++ counted head.last_line) rest, length-append front (counted head.last_line), length-counted head.last_line);
    }
