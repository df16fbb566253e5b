-- Selection masks and what they match (EN 13757-3, editions of 2004 and 2013, selection of meters by wildcards).
use Rattle.std.specs.Prelude.{◌≡◌, ◌≢◌, ◌<◌, ℕ, Bool, true, ◌&&◌, ◌||◌, List, [], ◌∷◌, ◌++◌, Option}
use Rattle.std.specs.Prelude.{Some, None, length, map, take, drop, unwrap_or, IsTrue, slice_index}
use Rattle.std.specs.Prelude.{slice_set, ◌==◌, if◌then◌else◌}
use Rattle.std.specs.List.{list_all, zip}
use Rattle.byteorder.specs.Endian.{little_bytes, little_number}
use Rattle.dc_address.specs.Digits.{decimal_digits, is_digit, packed_digits, unpacked_digits}
use Rattle.dc_address.specs.declared.identity.Identity.{Identity}

-- eight digits, most significant first, a manufacturer, a version and a type; None is the wildcard
pub record MaskParts : Type 0 where
  pub digits : List (Option ℕ)
  pub maker : Option ℕ
  pub version : Option ℕ
  pub kind : Option ℕ

-- a value is met by itself, a wildcard by everything
abbrev pub fits : Option ℕ → ℕ → Bool
fits None value = true
fits (Some wanted) value = wanted == value

-- each value is met at its place
abbrev pub all_fit : List (Option ℕ) → List ℕ → Bool
all_fit wanted values = list_all (λ pair. fits pair.0 pair.1) (zip wanted values)

-- whether a meter of this identity answers a selection by the mask
unfoldable pub matches : MaskParts → Identity → Bool
matches mask identity =
    all_fit mask.digits (decimal_digits 8 identity.number)
    && (fits mask.maker identity.maker &&
    (fits mask.version identity.version && fits mask.kind identity.kind))

-- all wildcards
abbrev pub mask_of_all : MaskParts
mask_of_all = record {
  digits = None ∷ None ∷ None ∷ None ∷ None ∷ None ∷ None ∷ None ∷ [];
  maker = None;
  version = None;
  kind = None;
}

-- FF on the wire is the wildcard, also where it is an identity's version or type
abbrev pub value_or_wildcard : ℕ → Option ℕ
value_or_wildcard byte = if byte == 255 then None else Some byte

-- the mask that asks for one identity
abbrev pub mask_of : Identity → MaskParts
mask_of identity = record {
  digits = map Some (decimal_digits 8 identity.number);
  maker = Some identity.maker;
  version = value_or_wildcard identity.version;
  kind = value_or_wildcard identity.kind;
}

-- the mask with one digit fixed, counted from the most significant at place 0
abbrev pub with_digit : MaskParts → ℕ → ℕ → MaskParts
with_digit mask place digit = record mask { digits = slice_set mask.digits place (Some digit) }

-- a wildcard is the digit F
abbrev pub nibble_of : Option ℕ → ℕ
nibble_of wanted = unwrap_or wanted 15

-- eight bytes as an identity is sent, a wildcard being F in a digit, FFFF for the manufacturer, FF for version and type
unfoldable pub mask_wire : MaskParts → List ℕ
mask_wire mask =
    packed_digits (map nibble_of mask.digits)
    ++ (little_bytes 2 (unwrap_or mask.maker 65535) ++ unwrap_or mask.version 255
    ∷ unwrap_or mask.kind 255 ∷ [])

-- ---- eight bytes, read

-- the digit F is a wildcard, and so is the manufacturer FFFF
abbrev pub digit_or_wildcard : ℕ → Option ℕ
digit_or_wildcard nibble = if nibble == 15 then None else Some nibble

abbrev pub code_or_wildcard : ℕ → Option ℕ
code_or_wildcard code = if code == 65535 then None else Some code

-- the mask that eight bytes send
unfoldable pub mask_at : List ℕ → MaskParts
mask_at wire = record {
  digits = map digit_or_wildcard (unpacked_digits (take 4 wire));
  maker = code_or_wildcard (little_number 2 (drop 4 wire));
  version = value_or_wildcard (slice_index wire 6);
  kind = value_or_wildcard (slice_index wire 7);
}

-- half of a byte is one that a mask sends: a digit, or F
abbrev pub is_sent : ℕ → Bool
is_sent nibble = is_digit nibble || nibble == 15

-- whether the digits of eight bytes are a mask's
abbrev pub are_sent : List ℕ → Bool
are_sent wire = list_all is_sent (unpacked_digits (take 4 wire))

-- ---- what every mask keeps: eight places, and no value that is sent as the wildcard

-- a fixed digit is one
abbrev pub is_place : Option ℕ → Bool
is_place None = true
is_place (Some digit) = is_digit digit

-- a fixed manufacturer is below FFFF
abbrev pub IsCode : Option ℕ → Type 0
IsCode None = Unit {0}
IsCode (Some code) = code < 65535

pub record IsMask (mask : MaskParts) : Type 0 where
  pub count : length mask.digits ≡ 8
  pub digits_are : IsTrue (list_all is_place mask.digits)
  pub maker_is : IsCode mask.maker
  pub version_is : mask.version ≢ Some 255
  pub kind_is : mask.kind ≢ Some 255
