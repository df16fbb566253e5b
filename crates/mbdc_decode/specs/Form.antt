-- The text written for an input in a form: that of its lines, in order (this product).
use Rattle.std.specs.Prelude.{ℕ, ◌+◌, List, [], ◌∷◌, ◌++◌, flat_map, Option, Some, None}
use Rattle.mbdc_io.specs.Lines.{lines_of}
use Rattle.mbdc_decode.specs.Frames.{frames_of}
use Rattle.mbdc_decode.specs.Text.{decoded}
use Rattle.mbdc_decode.specs.declared.form.LineForm.{Ghosts}

-- the frames of a line's bytes, or a line that isn't pairs of hex digits or is too long
abbrev pub decoded_as : {F : Type 0} → Ghosts F → ℕ → Option (List ℕ) → List ℕ
decoded_as form number None = form.fault_text number
decoded_as form number (Some bytes) = flat_map (form.frame_text number) (frames_of bytes)

unfoldable pub line_as : {F : Type 0} → Ghosts F → ℕ → List ℕ → List ℕ
line_as form number line = decoded_as form number (decoded line)

-- several lines, numbered from the first one's number
unfoldable pub lines_as : {F : Type 0} → Ghosts F → ℕ → List (List ℕ) → List ℕ
lines_as form number [] = []
lines_as form number (line ∷ lines) = line_as form number line ++ lines_as form (number + 1) lines

-- the text written for an input
abbrev pub text_as : {F : Type 0} → Ghosts F → List ℕ → List ℕ
text_as form input = lines_as form 1 (lines_of input)
