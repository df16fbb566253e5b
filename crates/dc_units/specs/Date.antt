-- A day of the calendar, and data type G (EN 13757-3, compound CP16: date).
use Rattle.std.specs.Prelude.{ℕ, ◌+◌, ◌*◌, ◌/◌, ◌%◌, Bool, ◌&&◌, nat_le, if◌then◌else◌, List}
use Rattle.std.specs.Prelude.{get_or, Option, Some, None, pos}
use Rattle.std.specs.Option.{option_and_then}
use Rattle.jiff.specs.Words.{days_in_month}

-- a date by its numbers
pub record Day : Type 0 where
  pub year : ℕ
  pub month : ℕ
  pub day : ℕ

-- the calendar has this day, and its year has at most four digits
abbrev pub exists : ℕ → ℕ → ℕ → Bool
exists year month day =
    nat_le year 9999 && (nat_le 1 month && nat_le month 12)
    && (nat_le 1 day && nat_le day (days_in_month (pos year) month))

-- the date with these numbers, where it exists
abbrev pub date_of : ℕ → ℕ → ℕ → Option Day
date_of year month day =
    if exists year month day then Some (record { year = year; month = month; day = day }) else None

-- The year that two digits stand for: 0 to 80 are 2000 to 2080, 81 to 99 are 1981 to 1999.
abbrev pub short_year : ℕ → Option ℕ
short_year y = if nat_le y 80 then Some (2000 + y)
    else (if nat_le y 99 then Some (1900 + y) else None)

-- The two bytes of a date. The day is bits 4 to 0 of the first and the month bits 3 to 0 of the second;
-- the year's low three bits are bits 7 to 5 of the first, its high four bits 7 to 4 of the second.
abbrev pub day_bits : ℕ → ℕ → ℕ
day_bits low high = low % 32

-- the month's bits in the two bytes of a date
abbrev pub month_bits : ℕ → ℕ → ℕ
month_bits low high = high % 16

-- the year's seven bits in the two bytes of a date, without the century
abbrev pub year_bits : ℕ → ℕ → ℕ
year_bits low high = low / 32 + 8 * (high / 16)

-- the date that two bytes say, once their year is known
abbrev pub date_in : ℕ → ℕ → Option ℕ → Option Day
date_in low high year = option_and_then (λ y.
    date_of y (month_bits low high) (day_bits low high)) year

-- data type G
abbrev pub type_g : List ℕ → Option Day
type_g bytes =
    let low = get_or bytes 0 0 in
    let high = get_or bytes 1 0 in
    date_in low high (short_year (year_bits low high))
