-- The texts of values (this product).
use Rattle.std.specs.Prelude.{ℕ, nat_lt, if◌then◌else◌, List, [], ◌∷◌, drop, Option, Some, None}
use Rattle.mbdc_reading.specs.Content.{Content, variable, fixed, content_of}
use Rattle.mbdc_reading.specs.Counter.{Counter}
use Rattle.mbdc_reading.specs.Fixed.{Fixed, fixed_at}
use Rattle.mbdc_reading.specs.Reading.{reading_of}
use Rattle.mbdc_reading.specs.Sent.{Sent, sent_at}
use Rattle.mbdc_reading.specs.Text.{value_text_of}
use Rattle.mbdc_library.specs.declared.plain.PlainRecord.{PlainRecord}

-- a text, where there is one
abbrev pub text_or_none : Option (List ℕ) → List ℕ
text_or_none None = []
text_or_none (Some text) = text

-- the value of the first of these records
abbrev pub first_text : List Sent → List ℕ
first_text [] = []
first_text (s ∷ ss) = text_or_none (value_text_of (reading_of s.entry s.len) s.entry.content)

abbrev pub counter_text : Counter → List ℕ
counter_text c = text_or_none (value_text_of c.reading c.entry.content)

abbrev pub fixed_text : Option Fixed → ℕ → List ℕ
fixed_text None at = []
fixed_text (Some f) at = if nat_lt at 12 then counter_text f.first else counter_text f.second

-- the value of the record that comes first from the place on at which it was asked for; of a counter that place says which
abbrev pub value_text_at : PlainRecord → List ℕ → List ℕ
value_text_at p body =
    if nat_lt p.reading.quantity 0x10000 then first_text (sent_at (drop p.places.at body))
    else fixed_text (fixed_at body) p.places.at
