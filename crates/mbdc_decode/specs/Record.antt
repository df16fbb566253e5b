-- A data record as JSON (this product; the fields are those of EN 13757-3, data record).
use Rattle.std.specs.Prelude.{ℕ, if◌then◌else◌, Bool, false, List, [], ◌∷◌, ◌++◌, codes, length, ◌==◌, map}
use Rattle.std.specs.Prelude.{Option, Some, None}
use Rattle.mbdc_io.specs.Hex.{upper_hex}
use Rattle.json.specs.Json.{Json, string, boolean, null}
use Rattle.dc_records.specs.Record.{Entry}
use Rattle.dc_units.specs.declared.value.Value.{Value}
use Rattle.dc_units.specs.declared.value.Value.TheVariants.{Number, Flags, Day as OnDay, Minute}
use Rattle.dc_units.specs.declared.value.Value.TheVariants.{None as NoValue}
use Rattle.dc_units.specs.Text.{value_text}
use Rattle.dc_records.specs.Fields.{function_name}
use Rattle.mbdc_reading.specs.declared.reading.Reading.{Reading}
use Rattle.mbdc_reading.specs.Codes.{code_at, number_of}
use Rattle.mbdc_reading.specs.Names.{names_of, how_name, type_found, fault_found, summer_found, vife_text}
use Rattle.mbdc_reading.specs.Parts.{maker_of, told_of}
use Rattle.mbdc_reading.specs.Reading.{reading_of}
use Rattle.mbdc_reading.specs.Sent.{Sent}
use Rattle.mbdc_reading.specs.Text.{label_text, unit_text, value_text_of}
use Rattle.mbdc_reading.specs.Counter.{Counter}
use Rattle.mbdc_decode.specs.Object.{Field, object_of, array_of, count}

-- the numbers and the function of a record, its value information block and its data as sent; and what it is of
unfoldable pub sent_fields : Entry → List Field
sent_fields e =
    (codes "storage", count e.storage)
    ∷ (codes "tariff", count e.tariff)
    ∷ (codes "subunit", count e.subunit)
    ∷ (codes "function", string (function_name e.function))
    ∷ (codes "vib", string (upper_hex e.vib))
    ∷ (codes "data", string (upper_hex e.content))
    ∷ []

unfoldable pub name_field : List ℕ → Field
name_field name = (codes "quantity", string name)

-- the names of its VIFEs, up to a manufacturer's
unfoldable pub qualifier_fields : List ℕ → List Field
qualifier_fields vib = (codes "qualifiers", array_of (map string (names_of false (told_of vib)))) ∷ []

-- A value is a text: an exact decimal, a date or a date and time of ISO 8601, flags in hex. It is
-- null if the meter sent no value.
unfoldable pub value_json : Value → Json
value_json (Number decimal) = string (value_text (Number decimal))
value_json (Flags len bits) = string (value_text (Flags len bits))
value_json (OnDay date) = string (value_text (OnDay date))
value_json (Minute date hour minute) = string (value_text (Minute date hour minute))
value_json NoValue = null

-- a value without a unit has null
unfoldable pub unit_json : List ℕ → Json
unit_json unit = if length unit == 0 then null else string unit

abbrev pub text_or_null : Option (List ℕ) → Json
text_or_null None = null
text_or_null (Some text) = string text

abbrev pub hex_or_null : Option (List ℕ) → Json
hex_or_null None = null
hex_or_null (Some bytes) = string (upper_hex bytes)

abbrev pub flag_or_null : Option Bool → Json
flag_or_null None = null
flag_or_null (Some flag) = boolean flag

-- by which table it is read, its value and unit, the type of the value, and why there is none
unfoldable pub value_fields : Entry → List ℕ → Reading → List Field
value_fields e unit r =
    (codes "reading", string (how_name r.how))
    ∷ (codes "value", text_or_null (value_text_of r e.content))
    ∷ (codes "unit", unit_json unit)
    ∷ (codes "type", text_or_null (type_found r.found))
    ∷ (codes "error", text_or_null (fault_found r.found))
    ∷ []

-- what else its VIFEs and its data say
unfoldable pub vife_fields : Entry → List ℕ → Reading → List Field
vife_fields e vib r =
    (codes "phase", text_or_null (vife_text r.phase))
    ∷ (codes "direction", text_or_null (vife_text r.direction))
    ∷ (codes "maker", hex_or_null (maker_of vib))
    ∷ (codes "label", text_or_null (label_text vib))
    ∷ (codes "summer_time", flag_or_null (summer_found r.found e.content))
    ∷ []

-- a record, what it is of, its value information block where it has one, its unit, and what is read of it
unfoldable pub told_fields : Entry → List ℕ → List ℕ → List ℕ → Reading → List Field
told_fields e name vib unit r =
    sent_fields e ++ (name_field name ∷ (qualifier_fields vib ++ (value_fields e unit r ++ vife_fields e vib r)))

unfoldable pub read_fields : Entry → Reading → List Field
read_fields e r = told_fields e (code_at (number_of e.vib)).name e.vib (unit_text r e.vib) r

unfoldable pub record_json : Sent → Json
record_json s = object_of (read_fields s.entry (reading_of s.entry s.len))

-- a counter of fixed data: its value information block is a unit byte, without VIFEs
unfoldable pub counter_json : Counter → Json
counter_json c = object_of (told_fields c.entry c.name [] c.unit c.reading)
