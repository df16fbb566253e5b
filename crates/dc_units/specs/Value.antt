-- The value of a data field (EN 13757-3).
use Rattle.std.specs.Prelude.{ℕ, if◌then◌else◌, List, length, Option, Some, None, ℤ}
use Rattle.dc_units.specs.declared.quantity.Quantity.{Quantity}
use Rattle.dc_units.specs.declared.quantity.Quantity.TheVariants.{Date, DateTime, ErrorFlags}
use Rattle.dc_units.specs.declared.value.Value.{Value}
use Rattle.dc_units.specs.declared.value.Value.TheVariants.{Number, Flags, Day as OnDay, Minute}
use Rattle.dc_units.specs.declared.value.Value.TheVariants.{None as NoValue}
use Rattle.dc_units.specs.Date.{Day, type_g}
use Rattle.dc_units.specs.Time.{Moment, type_f}
use Rattle.dc_units.specs.Number.{unsigned, integer, bcd}
use Rattle.dc_units.specs.Quantity.{is_integer}

-- the number in a data field of numbers
abbrev pub number_in : ℕ → List ℕ → Option ℤ
number_in field bytes = if is_integer field then integer bytes else bcd bytes

-- a number times a power of ten
abbrev pub scaled : ℤ → Option ℤ → Value
scaled exponent None = NoValue
scaled exponent (Some n) = Number (record { mantissa = n; exponent = exponent })

-- the value of a date field: its date, or no value
abbrev pub on_day : Option Day → Value
on_day None = NoValue
on_day (Some day) = OnDay day

-- the value of a date and time field: its date, hour and minute, or no value
abbrev pub at_minute : Option Moment → Value
at_minute None = NoValue
at_minute (Some moment) = Minute moment.day moment.hour moment.minute

-- the value of a quantity and its power of ten in a data field and its bytes
abbrev pub value_in : Quantity → ℤ → ℕ → List ℕ → Value
value_in Date exponent field bytes = on_day (type_g bytes)
value_in DateTime exponent field bytes = at_minute (type_f bytes)
value_in ErrorFlags exponent field bytes = Flags (length bytes) (unsigned bytes)
value_in _ exponent field bytes = scaled exponent (number_in field bytes)

-- the day of a date or of a date and time
abbrev pub day_of : Value → Option Day
day_of (OnDay day) = Some day
day_of (Minute day hour minute) = Some day
day_of _ = None
