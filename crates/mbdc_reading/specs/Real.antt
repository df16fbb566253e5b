-- REAL data (EN 13757-3, type H: IEEE 754 binary32): the decimal that is shown for a number.
use Rattle.std.specs.Prelude.{ℕ, zero, suc, ◌+◌, ◌-◌, ◌*◌, ◌/◌, ◌%◌, ◌^◌, Bool, true, false, not, ◌&&◌, ◌||◌, ◌==◌, nat_lt, if◌then◌else◌}
use Rattle.std.specs.Prelude.{List, [], ◌∷◌, Option, Some, None, ℤ, pos, neg_ℤ, ◌+ℤ◌, ◌-ℤ◌, int_lt, is_nan, to_bits}
use Rattle.std.specs.Float.{binary32}
use Rattle.std.specs.Float.Ieee.{Float}
use Rattle.fast_float.specs.Parse.{parse_float}
use Rattle.dc_units.specs.declared.decimal.Decimal.{Decimal}
use Rattle.dc_units.specs.Text.{decimal_text}
use Rattle.mbdc_reading.specs.declared.real.TheConstants.{CUTS}

-- ---- reading back

abbrev pub is_float : ℕ → Option Float → Bool
is_float bits None = false
is_float bits (Some x) = not (is_nan x) && (to_bits binary32 x == bits)

-- the decimal's text, read as the nearest binary32, has these bits
abbrev pub reads_back : ℕ → Decimal → Bool
reads_back bits d = is_float bits (parse_float binary32 (decimal_text d))

-- ---- the first digits of a number: at most 17, the others are left out

-- a number with places after the point is halved: times 5 with one place more, while there is room
unfoldable pub halved : ℕ → ℕ → ℕ → ℕ × ℕ
halved zero digits places = (digits, places)
halved (suc n) digits places =
    if nat_lt digits 20000000000000000 then halved n (5 * digits) (places + 1) else halved n (digits / 2) places

-- a number with zeros behind it is doubled
unfoldable pub doubled : ℕ → ℕ → ℕ → ℕ × ℕ
doubled zero digits zeros = (digits, zeros)
doubled (suc n) digits zeros =
    if nat_lt digits 50000000000000000 then doubled n (2 * digits) zeros else doubled n (digits / 5) (zeros + 1)

abbrev pub below_point : ℕ × ℕ → ℕ × ℤ
below_point x = (x.0, neg_ℤ (pos x.1))

abbrev pub above_point : ℕ × ℕ → ℕ × ℤ
above_point x = (x.0, pos x.1)

-- the biased exponent and the fraction of a binary32
abbrev pub scaled_by : ℕ → ℕ → ℕ × ℤ
scaled_by exponent fraction =
    if exponent == 0 then below_point (halved 149 fraction 0)
    else if nat_lt exponent 150 then below_point (halved (150 - exponent) (fraction + 0x800000) 0)
    else above_point (doubled (exponent - 150) (fraction + 0x800000) 0)

abbrev pub scaled : ℕ → ℕ × ℤ
scaled bits = scaled_by (bits / 0x800000 % 256) (bits % 0x800000)

-- ---- the decimals that are tried

-- to the nearest, and to an even digit at a tie
abbrev pub rounds_up : ℕ → ℕ → Bool
rounds_up cut digits = nat_lt cut (2 * (digits % cut)) || ((2 * (digits % cut) == cut) && (digits / cut % 2 == 1))

abbrev pub candidate : ℕ → ℕ → ℤ → Decimal
candidate bits digits power = record {
  mantissa = if nat_lt bits 0x80000000 then pos digits else neg_ℤ (pos digits);
  exponent = power;
}

abbrev pub first_back : ℕ → Decimal → Decimal → Option Decimal
first_back bits near other = if reads_back bits near then Some near else if reads_back bits other then Some other else None

-- the nearest decimal without the digits behind a cut, or its neighbour on the number's other side
unfoldable pub tried : ℕ → ℤ → ℕ → ℕ → Option Decimal
tried cut power digits bits =
    if ((digits / cut == 0) && not (rounds_up cut digits)) || (int_lt power (neg_ℤ (pos 120)) || int_lt (pos 120) power) then None
    else if rounds_up cut digits
    then first_back bits (candidate bits (digits / cut + 1) power) (candidate bits (digits / cut) power)
    else first_back bits (candidate bits (digits / cut) power) (candidate bits (digits / cut + 1) power)

abbrev pub or_else : Option Decimal → Option Decimal → Option Decimal
or_else (Some d) others = Some d
or_else None others = others

-- the first that reads back, by cuts whose first has this power of ten
unfoldable pub first_of : List ℕ → ℤ → ℕ → ℕ → Option Decimal
first_of [] power digits bits = None
first_of (cut ∷ cuts) power digits bits = or_else (tried cut power digits bits) (first_of cuts (power -ℤ pos 1) digits bits)

-- both zeros are 0; NaN and the infinities have none
abbrev pub real_of : ℕ → Option Decimal
real_of bits =
    if bits % 0x80000000 == 0 then Some (record { mantissa = pos 0; exponent = pos 0 })
    else if bits / 0x800000 % 256 == 255 then None
    else first_of CUTS ((scaled bits).1 +ℤ pos 17) (scaled bits).0 bits

-- ---- for private clauses

abbrev pub is_cut : ℕ → Bool
is_cut cut = nat_lt 0 cut
