-- What is read of a record (this product; EN 13757-3).
use Rattle.std.specs.Prelude.{ℕ, List, [], ◌∷◌, length, Option, Some, None, ℤ, pos, false}
use Rattle.dc_records.specs.Record.{Entry}
use Rattle.dc_units.specs.declared.point.Seen.{Seen}
use Rattle.dc_units.specs.declared.point.Seen.TheVariants.{Point as Known, Other}
use Rattle.dc_units.specs.declared.point.Point.{Point}
use Rattle.dc_units.specs.declared.quantity.Quantity.{Quantity}
use Rattle.dc_units.specs.declared.quantity.Quantity.TheVariants as listed
use Rattle.dc_units.specs.declared.value.Value.{Value}
use Rattle.dc_units.specs.declared.value.Value.TheVariants as value
use Rattle.dc_units.specs.Point.{seen_of}
use Rattle.mbdc_reading.specs.declared.form.Form.{Form}
use Rattle.mbdc_reading.specs.declared.form.DataType.{DataType}
use Rattle.mbdc_reading.specs.declared.form.DataType.TheVariants as typed
use Rattle.mbdc_reading.specs.declared.meaning.Meaning.{Meaning}
use Rattle.mbdc_reading.specs.declared.reading.Reading.{Reading}
use Rattle.mbdc_reading.specs.declared.reading.How.{How}
use Rattle.mbdc_reading.specs.declared.reading.How.TheVariants as how
use Rattle.mbdc_reading.specs.declared.reading.Found.{Found}
use Rattle.mbdc_reading.specs.declared.reading.Found.TheVariants as found
use Rattle.mbdc_reading.specs.declared.value.Datum.{Datum}
use Rattle.mbdc_reading.specs.declared.value.Datum.TheVariants as datum
use Rattle.mbdc_reading.specs.declared.value.NoValue.TheVariants.{Invalid}
use Rattle.mbdc_reading.specs.Codes.{number_of}
use Rattle.mbdc_reading.specs.Form.{form_of, type_of}
use Rattle.mbdc_reading.specs.Meaning.{meaning_of}
use Rattle.mbdc_reading.specs.Parts.{vifes_of}
use Rattle.mbdc_reading.specs.Value.{value_of}

-- ---- points of the due-date table

abbrev pub type_at : Quantity → DataType
type_at listed.Date = typed.Date
type_at listed.DateTime = typed.Minute
type_at listed.ErrorFlags = typed.Flags
type_at _ = typed.Number

-- why there is no value
abbrev pub fault_of : Datum → Datum
fault_of (datum.None fault) = datum.None fault
fault_of _ = datum.None Invalid

-- the table's value; where it has none, why
abbrev pub pointed : Value → Datum → Datum
pointed value.None d = fault_of d
pointed v d = datum.Known v

abbrev pub point_found : Entry → Point → DataType → Found
point_found e p t = found.Value t (pointed p.value (value_of t (form_of e.field 0 (length e.content)) (pos 0) e.content))

abbrev pub read_point : Entry → Point → Reading
read_point e p = record {
  how = how.Point p.quantity;
  found = point_found e p (type_at p.quantity);
  is_replaced = false;
  unit = None;
  direction = None;
  phase = None;
}

-- ---- other records

abbrev pub how_of : List ℕ → How
how_of [] = how.Plain
how_of (vife ∷ others) = how.Qualified

abbrev pub reading_with : Entry → Meaning → Found → Reading
reading_with e m what = record {
  how = how_of (vifes_of e.vib);
  found = what;
  is_replaced = m.is_replaced;
  unit = m.unit;
  direction = m.direction;
  phase = m.phase;
}

abbrev pub valued : Entry → Form → Meaning → Option DataType → Option Reading
valued e form m None = None
valued e form m (Some t) = Some (reading_with e m (found.Value t (value_of t form m.exponent e.content)))

-- a record error is told, and the data aren't looked at
abbrev pub told : Entry → Form → Meaning → Option ℕ → Option Reading
told e form m (Some number) = Some (reading_with e m (found.Failure number))
told e form m None = valued e form m (type_of m.kind form (length e.content))

abbrev pub meant_by : Entry → ℕ → Meaning → Option Reading
meant_by e len m = told e (form_of e.field len (length e.content)) m m.failure

abbrev pub if_meant : Entry → ℕ → Option Meaning → Option Reading
if_meant e len None = None
if_meant e len (Some m) = meant_by e len m

-- ---- all: a point of the due-date table is read as that point

abbrev pub read_as : Entry → ℕ → Seen → Option Reading
read_as e len (Known p) = Some (read_point e p)
read_as e len Other = if_meant e len (meaning_of (number_of e.vib) (vifes_of e.vib))

abbrev pub read : Entry → ℕ → Option Reading
read e len = read_as e len (seen_of e)

abbrev pub or_unread : Option Reading → Reading
or_unread (Some r) = r
or_unread None = record {
  how = how.Other;
  found = found.Nothing;
  is_replaced = false;
  unit = None;
  direction = None;
  phase = None;
}

-- what is read of a record with this length byte
unfoldable pub reading_of : Entry → ℕ → Reading
reading_of e len = or_unread (read e len)

-- there is no value, and a reason
abbrev pub HasNone : Found → Type 0
HasNone (found.Value t (datum.None fault)) = Unit {0}
HasNone _ = ⊥
