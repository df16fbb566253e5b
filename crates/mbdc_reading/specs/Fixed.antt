-- The fixed data structure (EN 13757-3): a number of four bytes, an access number, a status byte, two unit bytes and two
-- counters of four bytes.
use Rattle.std.specs.Prelude.{ℕ, ◌+◌, ◌*◌, ◌/◌, ◌&&◌, Bool, nat_lt, if◌then◌else◌, List, [], ◌∷◌, length}
use Rattle.std.specs.Prelude.{slice_index, slice_range, Option, Some, None, is_some}
use Rattle.dc_units.specs.Number.{bcd_digits, number_after}
use Rattle.mbdc_reading.specs.declared.content.fixed.FixedData as written
use Rattle.mbdc_reading.specs.Counter.{Counter, counter_view, first_counter, second_counter}

pub record Fixed : Type 0 where
  pub number : List ℕ
  pub access : ℕ
  pub status : ℕ
  pub medium : ℕ
  pub first : Counter
  pub second : Counter

abbrev pub fixed_view : written.FixedData → Fixed
fixed_view f = record {
  number = f.number.now;
  access = f.access;
  status = f.status;
  medium = f.medium;
  first = counter_view f.first;
  second = counter_view f.second;
}

-- the highest bits of the unit bytes are the medium
abbrev pub fixed_by : List ℕ → ℕ → ℕ → ℕ → Fixed
fixed_by body status one two = record {
  number = slice_range body 0 4;
  access = slice_index body 4;
  status = status / 4 * 4;
  medium = one / 64 + 4 * (two / 64);
  first = first_counter (slice_range body 6 7) (slice_range body 8 12) status one;
  second = second_counter (slice_range body 7 8) (slice_range body 12 16) status one two;
}

unfoldable pub fixed_at : List ℕ → Option Fixed
fixed_at body =
    if nat_lt (length body) 16 then None else Some (fixed_by body (slice_index body 5) (slice_index body 6) (slice_index body 7))

-- the number has eight digits
abbrev pub has_number : Fixed → Bool
has_number f = is_some (number_after 0 (bcd_digits f.number))

-- the counters of media 10 and above have their highest byte first, and aren't read
abbrev pub shows_counters : Fixed → Bool
shows_counters f = has_number f && nat_lt f.medium 10

abbrev pub counters_of : Fixed → List Counter
counters_of f = if shows_counters f then f.first ∷ f.second ∷ [] else []
