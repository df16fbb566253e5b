-- Hex digits: read in either case, written in capitals (this product).
use Rattle.std.specs.Prelude.{ℕ, ◌+◌, ◌-◌, ◌*◌, ◌/◌, ◌%◌, ◌&&◌, nat_le, nat_lt, if◌then◌else◌, List}
use Rattle.std.specs.Prelude.{[], ◌∷◌, flat_map, Option, Some, None}
use Rattle.std.specs.Io.KnownBytes.{prepend_known}

-- the value of a hex digit, in either case
abbrev pub digit_value : ℕ → Option ℕ
digit_value c =
    if nat_le 48 c && nat_le c 57 then Some (c - 48)
    else if nat_le 65 c && nat_le c 70 then Some (c - 55)
    else if nat_le 97 c && nat_le c 102 then Some (c - 87)
    else None

-- the byte of two digits, the higher one first
abbrev pub pair_value : Option ℕ → Option ℕ → Option ℕ
pair_value (Some high) (Some low) = Some (high * 16 + low)
pair_value (Some high) None = None
pair_value None low = None

-- a byte prepended to bytes, where both exist
abbrev pub onto_bytes : Option ℕ → Option (List ℕ) → Option (List ℕ)
onto_bytes (Some byte) rest = prepend_known (byte ∷ []) rest
onto_bytes None rest = None

-- the bytes that pairs of digits stand for, where they are nothing else
unfoldable pub bytes_of : List ℕ → Option (List ℕ)
bytes_of [] = Some []
bytes_of (digit ∷ []) = None
bytes_of (high ∷ low ∷ rest) = onto_bytes (pair_value (digit_value high) (digit_value low))
    (bytes_of rest)

-- a capital hex digit
abbrev pub upper_digit : ℕ → ℕ
upper_digit n = if nat_lt n 10 then 48 + n else 55 + n

-- a byte in two capital hex digits
abbrev pub upper_pair : ℕ → List ℕ
upper_pair b = upper_digit (b / 16) ∷ upper_digit (b % 16) ∷ []

-- bytes in capital hex digits
unfoldable pub upper_hex : List ℕ → List ℕ
upper_hex bytes = flat_map upper_pair bytes
