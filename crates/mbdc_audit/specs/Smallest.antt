-- Decimals as lines spell them, and whole numbers of the smallest unit (this product).
use Rattle.std.specs.Prelude.{ℕ, ◌+◌, ◌-◌, ◌*◌, ◌/◌, ◌%◌, ◌^◌, ◌==◌, ◌&&◌, Bool, true, false, not}
use Rattle.std.specs.Prelude.{nat_lt, nat_le, if◌then◌else◌, List, [], ◌∷◌, length, take, drop, Option, Some, None}
use Rattle.std.specs.Prelude.{ℤ, pos, negsuc}
use Rattle.std.specs.List.{position}
use Rattle.std.specs.Option.{option_and_then}
use Rattle.dc_units.specs.declared.decimal.Decimal.{Decimal}
use Rattle.mbdc_audit.specs.declared.smallest.Spelled.{Spelled}

-- values have at most 18 digits
abbrev pub end_of_values : ℕ
end_of_values = 10 ^ 18

abbrev pub is_digit : ℕ → Bool
is_digit byte = nat_le 48 byte && nat_le byte 57

-- the number that digits go on from n; none where one isn't a digit, and from 10^18 on
abbrev pub digits_on : ℕ → List ℕ → Option ℕ
digits_on n [] = Some n
digits_on n (digit ∷ rest) =
    if is_digit digit && nat_lt (10 * n + (digit - 48)) end_of_values
    then digits_on (10 * n + (digit - 48)) rest else None

abbrev pub is_point : ℕ → Bool
is_point byte = byte == 46

-- the digits before the point, and those after it where there is one
abbrev pub parts_at : List ℕ → Option ℕ → List ℕ × Option (List ℕ)
parts_at text None = (text, None)
parts_at text (Some point) = (take point text, Some (drop (point + 1) text))

abbrev pub parts_of : List ℕ → List ℕ × Option (List ℕ)
parts_of text = parts_at text (position is_point text)

-- the digits before the point have no 0 that could be left out
abbrev pub is_whole_part : List ℕ → Bool
is_whole_part [] = false
is_whole_part (digit ∷ []) = true
is_whole_part (digit ∷ next ∷ rest) = not (digit == 48)

-- the whole number that a text spells
abbrev pub whole_in : List ℕ → Option ℕ
whole_in text = if is_whole_part text then digits_on 0 text else None

abbrev pub with_decimals : ℕ → Option ℕ → Option Spelled
with_decimals decimals None = None
with_decimals decimals (Some digits) = Some (record { digits = digits; decimals = decimals })

-- without a point, or with digits after it, at most so many
abbrev pub spelled_after : ℕ → Option ℕ → Option (List ℕ) → Option Spelled
spelled_after most None after = None
spelled_after most (Some before) None = with_decimals 0 (Some before)
spelled_after most (Some before) (Some after) =
    if nat_lt 0 (length after) && nat_le (length after) most
    then with_decimals (length after) (digits_on before after) else None

-- the decimal that a text spells
unfoldable pub decimal_in : ℕ → List ℕ → Option Spelled
decimal_in most text = spelled_after most (whole_in (parts_of text).0) (parts_of text).1

-- a decimal of at most nine digits before the point and six after it, times 10^6
abbrev pub ratio_of : Spelled → Option ℕ
ratio_of s = if nat_lt (s.digits * 10 ^ (6 - s.decimals)) (10 ^ 15)
    then Some (s.digits * 10 ^ (6 - s.decimals)) else None

-- the ratio that a text spells, times 10^6
unfoldable pub ratio_in : List ℕ → Option ℕ
ratio_in text = option_and_then ratio_of (decimal_in 6 text)

-- a whole number of the smallest unit below 10^18
abbrev pub fitting : ℕ → Option ℕ
fitting units = if nat_lt units end_of_values then Some units else None

-- what is whole after a division by a power of ten
abbrev pub scaled_down : ℕ → ℕ → Option ℕ
scaled_down units power = if units % 10 ^ power == 0 then fitting (units / 10 ^ power) else None

-- a spelled value of units of this size
abbrev pub of_spelled : Spelled → ℕ → Option ℕ
of_spelled s size = scaled_down (s.digits * size) s.decimals

-- A magnitude of units of this size, times a power of ten. 38 of them fit 128 bits: what isn't 0 has more than 18 digits after a greater
-- one, and is no whole number after it as a divisor.
abbrev pub by_power : ℕ → ℤ → Option ℕ
by_power units (pos power) = if nat_lt 38 power then None else fitting (units * 10 ^ power)
by_power units (negsuc k) = if nat_lt 38 (k + 1) then None else scaled_down units (k + 1)

abbrev pub of_magnitude : ℕ → ℤ → ℕ → Option ℕ
of_magnitude n exponent size = if n == 0 then Some 0 else by_power (n * size) exponent

-- a decimal of units of this size; none below 0
abbrev pub of_mantissa : ℤ → ℤ → ℕ → Option ℕ
of_mantissa (pos n) exponent size = of_magnitude n exponent size
of_mantissa (negsuc k) exponent size = None

abbrev pub of_decimal : Decimal → ℕ → Option ℕ
of_decimal d size = of_mantissa d.mantissa d.exponent size
