-- What a line of text is made of (this product).
use Rattle.std.specs.Prelude.{ℕ, List, [], ◌∷◌, ◌++◌, codes, decimal}
use Rattle.mbdc_io.specs.Hex.{upper_pair, upper_hex}

-- a number in decimal
abbrev pub number_word : ℕ → List ℕ
number_word n = codes " " ++ decimal n

-- a byte in two hex digits
abbrev pub byte_word : ℕ → List ℕ
byte_word byte = codes " " ++ upper_pair byte

-- bytes in hex digits, `-` for none
unfoldable pub hex_word : List ℕ → List ℕ
hex_word [] = codes " -"
hex_word (byte ∷ bytes) = codes " " ++ upper_hex (byte ∷ bytes)

-- a fault: its number and its name
unfoldable pub fault_text : ℕ → List ℕ → List ℕ
fault_text number name = decimal number ++ codes " " ++ name

-- the line of what is at fault
unfoldable pub fault_line : List ℕ → ℕ → List ℕ → List ℕ
fault_line what number name = what ++ codes " " ++ fault_text number name ++ codes "\n"
