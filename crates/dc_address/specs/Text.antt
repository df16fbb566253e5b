-- The printed form of an identity, as 12345678.PAD.01.07 (this product).
use Rattle.std.specs.Prelude.{◌≡◌, ℕ, ◌+◌, ◌/◌, ◌%◌, Bool, not, ◌&&◌, ◌||◌, List, [], ◌∷◌, ◌++◌}
use Rattle.std.specs.Prelude.{Option, length, map, take, find, codes, slice_range, slice_index}
use Rattle.std.specs.Prelude.{nat_lt, nat_le, ◌==◌, if◌then◌else◌}
use Rattle.std.specs.List.{list_all}
use Rattle.std.specs.Char.{is_ascii_digit}
use Rattle.dc_address.specs.Digits.{decimal_digits}
use Rattle.dc_address.specs.Maker.{first_letter, second_letter, third_letter, is_letter}
use Rattle.dc_address.specs.declared.identity.Identity.{Identity}
use Rattle.dc_address.specs.declared.fault.IdentityFault.{IdentityFault}
use Rattle.dc_address.specs.declared.fault.IdentityFault.TheVariants.{Length, Digit, Letter, Hex}
use Rattle.dc_address.specs.declared.fault.IdentityFault.TheVariants.{Dot}

-- the ASCII code of a decimal digit
abbrev pub decimal_code : ℕ → ℕ
decimal_code digit = 48 + digit

-- what a byte is worth as a digit, counted from 48 and round from 0 to 255
abbrev pub code_value : ℕ → ℕ
code_value code = (code + 208) % 256

-- 0 to 9 and A to F
abbrev pub hex_code : ℕ → ℕ
hex_code digit = if nat_lt digit 10 then 48 + digit else 55 + digit

-- eight digits, three letters and two bytes in hexadecimal, with dots between
unfoldable pub text_of : Identity → List ℕ
text_of identity =
    map decimal_code (decimal_digits 8 identity.number)
    ++ (46 ∷ first_letter identity.maker ∷ second_letter identity.maker
    ∷ third_letter identity.maker
    ∷ 46 ∷ hex_code (identity.version / 16) ∷ hex_code (identity.version % 16)
    ∷ 46 ∷ hex_code (identity.kind / 16) ∷ hex_code (identity.kind % 16) ∷ [])

-- the text spells the identity
abbrev pub IsText : List ℕ → Identity → Type 0
IsText text identity = text ≡ text_of identity

-- ---- faults, the first that stands

abbrev pub is_hex : ℕ → Bool
is_hex code = is_ascii_digit code || (nat_le 65 code && nat_le code 70)

abbrev pub is_dot : ℕ → Bool
is_dot code = code == 46

abbrev pub stands : List ℕ → IdentityFault → Bool
stands text Length = not (length text == 18)
stands text Digit = not (list_all is_ascii_digit (take 8 text))
stands text Letter = not (list_all is_letter (slice_range text 9 12))
stands text Hex = not (list_all is_hex (slice_range text 13 15 ++ slice_range text 16 18))
stands text Dot = not (list_all is_dot
    (slice_index text 8 ∷ slice_index text 12 ∷ slice_index text 15 ∷ []))

unfoldable pub identity_fault : List ℕ → Option IdentityFault
identity_fault text = find (stands text) (Length ∷ Digit ∷ Letter ∷ Hex ∷ Dot ∷ [])

abbrev pub number_of : IdentityFault → ℕ
number_of Length = 1
number_of Digit = 2
number_of Letter = 3
number_of Hex = 4
number_of Dot = 5

abbrev pub name_of : IdentityFault → List ℕ
name_of Length = codes "Length"
name_of Digit = codes "Digit"
name_of Letter = codes "Letter"
name_of Hex = codes "Hex"
name_of Dot = codes "Dot"
