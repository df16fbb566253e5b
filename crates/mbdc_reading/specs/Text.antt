-- The texts of readings (this product).
use Rattle.std.specs.Prelude.{ℕ, ◌+◌, ◌/◌, ◌%◌, ◌==◌, nat_lt, if◌then◌else◌, List, [], ◌∷◌, ◌++◌, length, codes}
use Rattle.std.specs.Prelude.{Option, Some, None, Bool, true, false, slice_range}
use Rattle.std.specs.Option.{option_map}
use Rattle.dc_address.specs.Text.{text_of}
use Rattle.dc_units.specs.Date.{Day}
use Rattle.dc_units.specs.Quantity.{unit_of}
use Rattle.dc_units.specs.Text.{last_digits, minute_text, value_text}
use Rattle.mbdc_reading.specs.declared.form.DataType.{DataType}
use Rattle.mbdc_reading.specs.declared.form.DataType.TheVariants as typed
use Rattle.mbdc_reading.specs.declared.reading.Reading.{Reading}
use Rattle.mbdc_reading.specs.declared.reading.How.{How}
use Rattle.mbdc_reading.specs.declared.reading.How.TheVariants as how
use Rattle.mbdc_reading.specs.declared.reading.Found.{Found}
use Rattle.mbdc_reading.specs.declared.reading.Found.TheVariants as found
use Rattle.mbdc_reading.specs.Codes.{code_at, number_of}
use Rattle.mbdc_reading.specs.Parts.{label_of}
use Rattle.mbdc_reading.specs.Vifes.{vife_at}
use Rattle.mbdc_reading.specs.declared.value.Datum.{Datum}
use Rattle.mbdc_reading.specs.declared.value.Datum.TheVariants as datum

-- a character of ISO 8859-1 in UTF-8
abbrev pub character : ℕ → List ℕ
character byte = if nat_lt byte 0x80 then byte ∷ [] else (0xC0 + byte / 64) ∷ (0x80 + byte % 64) ∷ []

-- characters of which the last is sent first
abbrev pub latin1_text : List ℕ → List ℕ
latin1_text [] = []
latin1_text (byte ∷ others) = latin1_text others ++ character byte

-- bytes of which the last is sent first, in hex
abbrev pub hex_text : List ℕ → List ℕ
hex_text [] = []
hex_text (byte ∷ others) = hex_text others ++ last_digits 16 2 byte

-- 23:59:59
abbrev pub clock_text : ℕ → ℕ → ℕ → List ℕ
clock_text hour minute second =
    last_digits 10 2 hour ++ (codes ":" ++ (last_digits 10 2 minute ++ (codes ":" ++ last_digits 10 2 second)))

-- 2014-03-13T11:11:30
abbrev pub second_text : Day → ℕ → ℕ → ℕ → List ℕ
second_text day hour minute second = minute_text day hour minute ++ (codes ":" ++ last_digits 10 2 second)

abbrev pub datum_text : Datum → List ℕ → List ℕ
datum_text (datum.Known v) content = value_text v
datum_text (datum.Second day hour minute second) content = second_text day hour minute second
datum_text (datum.Time hour minute second) content = clock_text hour minute second
datum_text datum.Digits content = hex_text content
datum_text datum.Text content = latin1_text content
datum_text (datum.Letters i) content = slice_range (text_of i) 9 12
datum_text (datum.Identity i) content = text_of i
datum_text (datum.None fault) content = []

-- ---- units

-- a unit of a VIFE where no other stands before it
abbrev pub alone : List ℕ → List ℕ
alone [] = []
alone (first ∷ rest) = if first == 47 then 49 ∷ first ∷ rest else if first == 42 then rest else first ∷ rest

-- characters as they are sent, a text, and the text of a VIFE
abbrev pub joined : List ℕ → List ℕ → List ℕ → List ℕ
joined [] [] suffix = alone suffix
joined label base suffix = latin1_text label ++ (base ++ suffix)

abbrev pub text_at : Option ℕ → List ℕ
text_at None = []
text_at (Some number) = (vife_at number).text

abbrev pub base_of : Option (List ℕ) → List ℕ → List ℕ → List ℕ
base_of (Some label) base suffix = joined label [] suffix
base_of None base suffix = joined [] base suffix

unfoldable pub code_unit : Bool → List ℕ → List ℕ → List ℕ
code_unit true vib suffix = joined [] [] suffix
code_unit false vib suffix = base_of (label_of vib) (code_at (number_of vib)).unit suffix

abbrev pub typed_unit : DataType → Bool → List ℕ → List ℕ → List ℕ
typed_unit typed.Number replaced vib suffix = code_unit replaced vib suffix
typed_unit typed.Flags replaced vib suffix = code_unit replaced vib suffix
typed_unit _ replaced vib suffix = []

abbrev pub found_unit : Found → Bool → List ℕ → List ℕ → List ℕ
found_unit (found.Value t d) replaced vib suffix = typed_unit t replaced vib suffix
found_unit _ replaced vib suffix = []

abbrev pub how_unit : How → Reading → List ℕ → List ℕ
how_unit (how.Point quantity) r vib = joined [] (unit_of quantity) (text_at r.unit)
how_unit _ r vib = found_unit r.found r.is_replaced vib (text_at r.unit)

-- the unit of a reading; numbers and flags have one
unfoldable pub unit_text : Reading → List ℕ → List ℕ
unit_text r vib = how_unit r.how r vib

-- ---- values

abbrev pub found_text : Found → List ℕ → Option (List ℕ)
found_text (found.Value t (datum.None fault)) content = None
found_text (found.Value t d) content = Some (datum_text d content)
found_text _ content = None

-- the value of a reading; no record's data are longer than 191 bytes
unfoldable pub value_text_of : Reading → List ℕ → Option (List ℕ)
value_text_of r content = if nat_lt 191 (length content) then None else found_text r.found content

-- ---- labels

unfoldable pub label_text : List ℕ → Option (List ℕ)
label_text vib = option_map latin1_text (label_of vib)

-- ---- for private clauses

-- the room for any of these texts
abbrev pub room_needed : ℕ
room_needed = 1024
