-- Data type F (EN 13757-3, compound CP32: date and time).
use Rattle.std.specs.Prelude.{ℕ, ◌+◌, ◌*◌, ◌/◌, ◌%◌, Bool, ◌&&◌, ◌==◌, nat_le, if◌then◌else◌, List}
use Rattle.std.specs.Prelude.{get_or, Option, Some, None}
use Rattle.std.specs.Option.{option_map}
use Rattle.dc_units.specs.Date.{Day, short_year, year_bits, date_in}

-- a minute of a day
pub record Moment : Type 0 where
  pub day : Day
  pub hour : ℕ
  pub minute : ℕ

-- The year with a century: 0 leaves it to the two digits, 1, 2 and 3 count from 1900 on.
abbrev pub century_year : ℕ → ℕ → Option ℕ
century_year century y =
    if century == 0 then short_year y
    else (if nat_le y 99 then Some (1900 + 100 * century + y) else None)

-- The time is valid (bit 7 of the first byte) and stands on a clock.
abbrev pub is_time : ℕ → ℕ → ℕ → Bool
is_time invalid hour minute = (invalid == 0) && (nat_le hour 23 && nat_le minute 59)

-- Data type F. The minute is bits 5 to 0 of the first byte, the hour bits 4 to 0 of the second, the
-- century its bits 6 to 5; the last two bytes are a date as in type G.
abbrev pub type_f : List ℕ → Option Moment
type_f bytes =
    let first = get_or bytes 0 0 in
    let second = get_or bytes 1 0 in
    let low = get_or bytes 2 0 in
    let high = get_or bytes 3 0 in
    let minute = first % 64 in
    let hour = second % 32 in
    if is_time (first / 128) hour minute
    then option_map (λ day. record { day = day; hour = hour; minute = minute })
    (date_in low high (century_year (second / 32 % 4) (year_bits low high)))
    else None
