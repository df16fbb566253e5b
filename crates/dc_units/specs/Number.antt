-- The numbers of data fields (EN 13757-3): type B, binary, and type A, packed BCD.
use Rattle.std.specs.Prelude.{ℕ, ◌-◌, ◌*◌, ◌/◌, ◌%◌, ◌^◌, Bool, ◌==◌, nat_lt, if◌then◌else◌, List}
use Rattle.std.specs.Prelude.{[], ◌∷◌, length, reverse, Option, Some, None, ℤ, pos, neg_ℤ, ◌-ℤ◌}
use Rattle.std.specs.Option.{option_map}
use Rattle.std.specs.List.{flat_map, list_all}
use Rattle.std.specs.Int.Digits.{number_from_digits_after}
use Rattle.dc_records.specs.Record.{number}

-- a whole number without a sign, the lowest byte first
abbrev pub unsigned : List ℕ → ℕ
unsigned bytes = number 256 bytes

-- a number in two's complement, by what its bits are without a sign
abbrev pub with_sign : ℕ → ℕ → ℤ
with_sign bits n = if nat_lt n (2 ^ (bits - 1)) then pos n else pos n -ℤ pos (2 ^ bits)

-- Type B: two's complement. The least number, which has no opposite, means that there is no value.
abbrev pub integer : List ℕ → Option ℤ
integer bytes =
    let bits = 8 * length bytes in
    let n = unsigned bytes in
    if n == 2 ^ (bits - 1) then None else Some (with_sign bits n)

-- the two digits of a byte, the higher first
abbrev pub digit_pair : ℕ → List ℕ
digit_pair byte = (byte / 16) ∷ (byte % 16) ∷ []

-- the digits of packed BCD, the highest first; the lowest byte is sent first
abbrev pub bcd_digits : List ℕ → List ℕ
bcd_digits bytes = flat_map digit_pair (reverse bytes)

-- a BCD digit, 0 to 9
abbrev pub is_decimal_digit : ℕ → Bool
is_decimal_digit d = nat_lt d 10

-- the number that digits go on from n; none where a digit is above 9
abbrev pub number_after : ℕ → List ℕ → Option ℕ
number_after n digits =
    if list_all is_decimal_digit digits then Some (number_from_digits_after 10 n digits) else None

-- the negative of a natural number
abbrev pub minus : ℕ → ℤ
minus n = neg_ℤ (pos n)

-- a number by its digits, the highest first; F as the highest means minus
abbrev pub signed_number : List ℕ → Option ℤ
signed_number [] = None
signed_number (top ∷ digits) =
    if top == 0xF then option_map minus (number_after 0 digits)
    else option_map pos (number_after 0 (top ∷ digits))

-- Type A. A digit above 9, but for F as the highest, means that there is no value.
abbrev pub bcd : List ℕ → Option ℤ
bcd bytes = signed_number (bcd_digits bytes)
