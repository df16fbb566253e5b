-- Days and the moments at their ends (this product).
use Rattle.std.specs.Prelude.{ℕ, ◌+◌, ◌-◌, ◌*◌, ◌/◌, ◌==◌, nat_lt, nat_le, if◌then◌else◌}
use Rattle.std.specs.Prelude.{List, [], ◌∷◌, Option, None, Some}
use Rattle.dc_units.specs.Date.{Day}
use Rattle.dc_units.specs.declared.value.Value as value_type
use Rattle.dc_units.specs.declared.value.Value.TheVariants as value
use Rattle.mbdc_audit.specs.declared.moment.Dated.{Dated}
use Rattle.mbdc_audit.specs.declared.moment.DayEnd.{DayEnd}
use Rattle.mbdc_audit.specs.Smallest.{whole_in}

abbrev pub leap_days : ℕ → ℕ
leap_days years = years / 4 + years / 400 - years / 100

-- days from 1 March of the year 0, of years that begin in March, so that a leap day is a year's last
abbrev pub from_march : ℕ → ℕ → ℕ → ℕ
from_march year month day = 365 * year + leap_days year + (153 * month + 2) / 5 + day

abbrev pub days_of : Day → ℕ
days_of d = if nat_lt d.month 3 then from_march (d.year - 1) (d.month + 9) d.day
    else from_march d.year (d.month - 3) d.day

-- the number of a day since 1970, from then on
abbrev pub number_of : Day → ℕ
number_of d = days_of d - 719469

abbrev pub from_1970 : ℕ → Option ℕ
from_1970 days = if nat_le 719469 days then Some (days - 719469) else None

-- the number of a day since 1970
abbrev pub number_of_day : Day → Option ℕ
number_of_day d = from_1970 (days_of d)

abbrev pub ahead : Option ℕ → Option ℕ
ahead None = None
ahead (Some n) = if nat_lt n 10000 then Some (10080 + n) else None

abbrev pub behind : Option ℕ → Option ℕ
behind None = None
behind (Some n) = if nat_lt n 10000 then Some (10080 - n) else None

-- minutes ahead of a week behind UTC; a hyphen stands before those behind UTC
abbrev pub minutes_in : List ℕ → Option ℕ
minutes_in [] = None
minutes_in (byte ∷ rest) = if byte == 45 then behind (whole_in rest) else ahead (whole_in (byte ∷ rest))

abbrev pub end_of : DayEnd → ℕ
end_of e = (e.day + 1) * 86400 + 604800 - 60 * e.offset

abbrev pub dated_day : Option ℕ → Option Dated
dated_day None = None
dated_day (Some day) = Some (record { day = day; second = None })

-- 00:00 ends the day before
abbrev pub dated_minute : ℕ → Option ℕ → Option Dated
dated_minute time None = None
dated_minute time (Some day) = if time == 0
    then (if day == 0 then None else Some (record { day = day - 1; second = Some (day * 86400) }))
    else Some (record { day = day; second = Some (day * 86400 + time) })

abbrev pub date_in : value_type.Value → Option Dated
date_in (value.Day d) = dated_day (number_of_day d)
date_in (value.Minute d hour minute) = dated_minute (3600 * hour + 60 * minute) (number_of_day d)
date_in _ = None
