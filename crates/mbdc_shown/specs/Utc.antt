-- The day and the minute of a time stamp in UTC, on the calendar that ISO 8601 extends (this product).
use Rattle.std.specs.Prelude.{ℕ, zero, suc, ◌+◌, ◌/◌, ◌%◌, nat_lt, if◌then◌else◌, pos}
use Rattle.jiff_core.specs.Calendar.{days_in_month}
use Rattle.dc_units.specs.Date.{Day}
use Rattle.dc_units.specs.declared.value.Value.{Value}
use Rattle.dc_units.specs.declared.value.Value.TheVariants.{Minute}

-- the day after a day
abbrev pub next_day : Day → Day
next_day d =
    if nat_lt d.day (days_in_month (pos d.year) d.month) then record d { day = d.day + 1 }
    else (if nat_lt d.month 12 then record d { month = d.month + 1; day = 1 }
    else record { year = d.year + 1; month = 1; day = 1 })

-- the day that is this many days after 1 January 1970
unfoldable pub day_number : ℕ → Day
day_number zero = record { year = 1970; month = 1; day = 1 }
day_number (suc n) = next_day (day_number n)

-- the minute of a second since 1970
abbrev pub minute_of : ℕ → Value
minute_of second = Minute (day_number (second / 86400)) (second % 86400 / 3600) (second % 3600 / 60)

-- the last day of the year 9999
abbrev pub last_day : ℕ
last_day = 2932896
