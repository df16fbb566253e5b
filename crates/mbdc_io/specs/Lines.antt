-- The lines of an input (this product).
use Rattle.std.specs.Prelude.{◌≢◌, ℕ, ◌<◌, slice_index, length, ◌==◌, Bool, not, if◌then◌else◌}
use Rattle.std.specs.Prelude.{List, [], ◌∷◌}

-- the most bytes of an input: 1 MiB
abbrev pub most_input : ℕ
most_input = 1048576

-- the most characters of an input line
abbrev pub longest_input_line : ℕ
longest_input_line = 4096

-- the most bytes that the digits of an input line spell
abbrev pub most_spelled : ℕ
most_spelled = 2048

-- a byte prepended to the first line
abbrev pub onto_first : ℕ → List (List ℕ) → List (List ℕ)
onto_first b [] = (b ∷ []) ∷ []
onto_first b (line ∷ lines) = (b ∷ line) ∷ lines

-- The lines of a text, without their ends. A line feed or the end of the input ends a line; no line
-- follows the last line feed.
unfoldable pub lines_of : List ℕ → List (List ℕ)
lines_of [] = []
lines_of (b ∷ rest) = if b == 10 then [] ∷ lines_of rest else onto_first b (lines_of rest)

-- no byte of the line is a line feed
abbrev pub LacksFeed : List ℕ → Type 0
LacksFeed line = (k : ℕ) → k < length line → slice_index line k ≢ 10

-- a character that is no space
abbrev pub is_solid : ℕ → Bool
is_solid b = not (b == 32)
