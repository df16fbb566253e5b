-- Decimal digits of fixed width, most significant first, and two of them in a byte: the binary coded
-- decimal of EN 13757-3 (data type A), whose bytes go low byte first.
use Rattle.std.specs.Prelude.{ℕ, zero, suc, ◌+◌, ◌*◌, ◌/◌, ◌%◌, ◌^◌, Bool, List, [], ◌∷◌, ◌++◌}
use Rattle.std.specs.Prelude.{nat_lt}

-- the lowest `width` digits of a number
unfoldable pub decimal_digits : ℕ → ℕ → List ℕ
decimal_digits zero number = []
decimal_digits (suc width) number = number / 10 ^ width % 10 ∷ decimal_digits width number

-- a decimal digit, 0 to 9
abbrev pub is_digit : ℕ → Bool
is_digit value = nat_lt value 10

abbrev pub is_nibble : ℕ → Bool
is_nibble value = nat_lt value 16

-- digits in bytes, the first of a pair in the high half; the byte of the lowest pair comes first
abbrev pub packed_digits : List ℕ → List ℕ
packed_digits [] = []
packed_digits (alone ∷ []) = []
packed_digits (high ∷ low ∷ rest) = packed_digits rest ++ (16 * high + low) ∷ []

-- the halves of bytes as digits again
abbrev pub unpacked_digits : List ℕ → List ℕ
unpacked_digits [] = []
unpacked_digits (byte ∷ rest) = unpacked_digits rest ++ byte / 16 ∷ byte % 16 ∷ []
