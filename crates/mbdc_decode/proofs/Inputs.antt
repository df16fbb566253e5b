-- The lines of an input, one line more.
use Rattle.std.proofs.Common.{◌≡◌, ℕ, List, [], ◌∷◌, ◌++◌, length, refl, false, arith}
use Rattle.std.specs.Prelude.{◌||◌}
use Rattle.mbdc_io.specs.Lines.{lines_of}
use Rattle.mbdc_decode.specs.Text.{line_text, is_bad_line, lines_text, any_bad_line}

pub no_line : (input : List ℕ) → length input ≡ 0 → lines_of input ≡ []
unfolding lines_of
no_line [] none = refl
no_line (b ∷ input) none = absurd (omega arith)

pub no_lines_text : lines_text [] ≡ []
unfolding lines_text
no_lines_text = refl

pub first_lines_text : (line : List ℕ) (lines : List (List ℕ)) → lines_text (line ∷ lines) ≡ line_text line ++ lines_text lines
unfolding lines_text
first_lines_text line lines = refl

pub no_bad_line : any_bad_line [] ≡ false
unfolding any_bad_line
no_bad_line = refl

pub first_bad_line : (line : List ℕ) (lines : List (List ℕ)) → any_bad_line (line ∷ lines) ≡ (is_bad_line line || any_bad_line lines)
unfolding any_bad_line
first_bad_line line lines = refl

pub ruleset lines = (no_line, no_lines_text, first_lines_text, no_bad_line, first_bad_line)
