-- The JSON lines printed for an input: one object for each frame and for each fault, in order (this
-- product).
use Rattle.std.specs.Prelude.{ℕ, ◌+◌, List, [], ◌∷◌, ◌++◌, flat_map, map, Option, Some, None}
use Rattle.json.specs.Json.{Json}
use Rattle.json.specs.Print.{print}
use Rattle.json.specs.Tree.{json_tokens}
use Rattle.mbdc_decode.specs.Frames.{frames_of}
use Rattle.mbdc_io.specs.Lines.{lines_of}
use Rattle.mbdc_decode.specs.Text.{decoded}
use Rattle.mbdc_decode.specs.Frame.{text_json, hex_fault_json}

-- a value and a line feed
unfoldable pub value_line : Json → List ℕ
value_line value = print (json_tokens value) ++ 10 ∷ []

-- the objects of a line: one for each text that its bytes split into
abbrev pub decoded_objects : ℕ → Option (List ℕ) → List Json
decoded_objects line None = hex_fault_json line ∷ []
decoded_objects line (Some bytes) = map (text_json line) (frames_of bytes)

unfoldable pub line_objects : ℕ → List ℕ → List Json
line_objects number line = decoded_objects number (decoded line)

-- the objects of several lines, numbered from the first one's number
unfoldable pub objects_from : ℕ → List (List ℕ) → List Json
objects_from number [] = []
objects_from number (line ∷ lines) = line_objects number line ++ objects_from (number + 1) lines

-- the objects of an input
abbrev pub objects_of : List ℕ → List Json
objects_of input = objects_from 1 (lines_of input)

-- each on a line of its own
unfoldable pub lines_text : List Json → List ℕ
lines_text values = flat_map value_line values

-- the text printed for an input
abbrev pub json_text : List ℕ → List ℕ
json_text input = lines_text (objects_of input)
