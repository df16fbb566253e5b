-- The texts of decimals, dates and values (this product).
use Rattle.std.specs.Prelude.{ℕ, zero, suc, ◌/◌, ◌%◌, ◌*◌, ◌^◌, true, ◌==◌, if◌then◌else◌, List, []}
use Rattle.std.specs.Prelude.{◌∷◌, ◌++◌, replicate, codes, decimal, ℤ, pos, negsuc, unsigned_abs}
use Rattle.std.specs.Fmt.{digit_glyph}
use Rattle.dc_units.specs.declared.decimal.Decimal.{Decimal}
use Rattle.dc_units.specs.declared.value.Value.{Value}
use Rattle.dc_units.specs.declared.value.Value.TheVariants.{Number, Flags, Day as OnDay, Minute}
use Rattle.dc_units.specs.declared.value.Value.TheVariants.{None as NoValue}
use Rattle.dc_units.specs.Date.{Day}

-- the last digits of a number in a base, this many, in capitals
unfoldable pub last_digits : ℕ → ℕ → ℕ → List ℕ
last_digits base zero n = []
last_digits base (suc count) n = last_digits base count (n / base)
    ++ (digit_glyph true (n % base) ∷ [])

-- a minus sign before a negative number, nothing before any other
abbrev pub sign : ℤ → List ℕ
sign (pos n) = []
sign (negsuc n) = codes "-"

-- A number and this many zeros; nothing is `0`.
abbrev pub whole_text : ℕ → ℕ → List ℕ
whole_text n zeros = if n == 0 then codes "0" else decimal n ++ replicate zeros 48

-- A number with this many of its digits after the point, and at least one before.
abbrev pub fraction_text : ℕ → ℕ → List ℕ
fraction_text n places = decimal (n / 10 ^ places) ++ (codes "." ++ last_digits 10 places n)

-- a magnitude times a power of ten
abbrev pub magnitude_text : ℕ → ℤ → List ℕ
magnitude_text n (pos power) = whole_text n power
magnitude_text n (negsuc k) = fraction_text n (suc k)

-- the decimal text of a mantissa times a power of ten
abbrev pub decimal_text : Decimal → List ℕ
decimal_text d = sign d.mantissa ++ magnitude_text (unsigned_abs d.mantissa) d.exponent

-- 2024-12-31
abbrev pub day_text : Day → List ℕ
day_text d =
    last_digits 10 4 d.year ++ (codes "-"
    ++ (last_digits 10 2 d.month ++ (codes "-" ++ last_digits 10 2 d.day)))

-- 2025-01-31T23:59
abbrev pub minute_text : Day → ℕ → ℕ → List ℕ
minute_text d hour minute =
    day_text d ++ (codes "T" ++ (last_digits 10 2 hour ++ (codes ":" ++ last_digits 10 2 minute)))

-- A value. Flags are in hex, two digits for each byte, the highest first.
abbrev pub value_text : Value → List ℕ
value_text (Number d) = decimal_text d
value_text (Flags len bits) = last_digits 16 (2 * len) bits
value_text (OnDay d) = day_text d
value_text (Minute d hour minute) = minute_text d hour minute
value_text NoValue = codes "none"
