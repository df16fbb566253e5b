-- A text on one line (this product): a control character is written as Rust's `escape_default` writes it.
use Rattle.std.specs.Prelude.{ℕ, List, [], ◌∷◌, flat_map, if◌then◌else◌}
use Rattle.std.specs.Str.{chars, encode_utf8_all}
use Rattle.std.specs.Char.{is_control}
use Rattle.std.specs.Char.Escape.{escape_default}

-- the characters that a character is printed as
abbrev pub shown : ℕ → List ℕ
shown c = if is_control c then escape_default c else c ∷ []

-- a text of UTF-8, its control characters escaped
unfoldable pub escaped : List ℕ → List ℕ
escaped text = encode_utf8_all (flat_map shown (chars text))
