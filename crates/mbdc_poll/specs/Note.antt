-- The lines of an image's journal (RFC 8259; this product): each begins with the second since 1970 at which it is written.
use Rattle.std.specs.Prelude.{ℕ, List, [], ◌∷◌, ◌++◌, codes, decimal, drop}
use Rattle.mbdc_decode.specs.JsonText.{value_line}
use Rattle.mbdc_decode.specs.Object.{object_of}
use Rattle.mbdc_poll.specs.Object.{count_field, event_field, text_field}

-- the field of the flat; none where it has no name
abbrev pub flat_text : List ℕ → List ℕ → List ℕ
flat_text [] rest = codes "," ++ rest
flat_text (b ∷ flat) rest = codes ",\"flat\":\"" ++ ((b ∷ flat) ++ (codes "\"," ++ rest))

-- THE LINE OF AN EVENT: the moment, the flat, and then the members of its object
unfoldable pub note_of : ℕ → List ℕ → List ℕ → List ℕ
note_of at flat object = codes "{\"at\":" ++ (decimal at ++ flat_text flat (drop 1 object))

-- THE LINE OF A COMMAND that was done: its number and its line
unfoldable pub command_note : ℕ → ℕ → List ℕ → List ℕ
command_note at number line = value_line (object_of (count_field (codes "at") at
    ∷ event_field (codes "command") ∷ count_field (codes "number") number
    ∷ text_field (codes "line") line ∷ []))
