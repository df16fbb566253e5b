-- The text printed for an input: the text of its lines, in order (this product).
use Rattle.std.specs.Prelude.{ℕ, ◌||◌, nat_lt, if◌then◌else◌, Bool, true, false, List, [], ◌∷◌}
use Rattle.std.specs.Prelude.{codes, length, filter, flat_map, Option, Some, None}
use Rattle.mbdc_io.specs.Hex.{bytes_of}
use Rattle.mbdc_io.specs.Lines.{lines_of, is_solid, longest_input_line}
use Rattle.mbdc_decode.specs.Frames.{frames_of, all_shown, any_bad}

-- The bytes of a line of hex digits. Spaces among them count as characters.
unfoldable pub decoded : List ℕ → Option (List ℕ)
decoded line = if nat_lt longest_input_line (length line) then None
    else bytes_of (filter is_solid line)

abbrev pub decoded_text : Option (List ℕ) → List ℕ
decoded_text None = codes "HEX FAULT\n"
decoded_text (Some bytes) = all_shown (frames_of bytes)

abbrev pub is_bad_decoded : Option (List ℕ) → Bool
is_bad_decoded None = true
is_bad_decoded (Some bytes) = any_bad (frames_of bytes)

-- the text printed for a line, and whether it has a fault
unfoldable pub line_text : List ℕ → List ℕ
line_text line = decoded_text (decoded line)

unfoldable pub is_bad_line : List ℕ → Bool
is_bad_line line = is_bad_decoded (decoded line)

unfoldable pub lines_text : List (List ℕ) → List ℕ
lines_text lines = flat_map line_text lines

unfoldable pub any_bad_line : List (List ℕ) → Bool
any_bad_line [] = false
any_bad_line (line ∷ lines) = is_bad_line line || any_bad_line lines

-- the text printed for an input
abbrev pub text_of : List ℕ → List ℕ
text_of input = lines_text (lines_of input)

-- the text for an input contains a fault of a line, a frame or a body
abbrev pub has_fault : List ℕ → Bool
has_fault input = any_bad_line (lines_of input)
