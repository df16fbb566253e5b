-- Data points: the table of units, with the values of data fields.
use Rattle.std.specs.Prelude.{◌≡◌, ℕ, ◌-◌, ◌≤◌, ◌&&◌, ◌==◌, if◌then◌else◌, IsTrue, List, [], ◌∷◌}
use Rattle.std.specs.Prelude.{◌++◌, length, Option, Some, None, ⊤, ℤ, pos, ◌+ℤ◌}
use Rattle.std.specs.List.{Contains}
use Rattle.dc_records.specs.Record.{Entry, width}
use Rattle.dc_units.specs.declared.point.Seen.{Seen}
use Rattle.dc_units.specs.declared.point.Seen.TheVariants.{Point as Known, Other}
use Rattle.dc_units.specs.declared.point.Point.{Point}
use Rattle.dc_units.specs.declared.quantity.Quantity.{Quantity}
use Rattle.dc_units.specs.Quantity.{takes}
use Rattle.dc_units.specs.Table.{Row, table, row_of, exponent_of}
use Rattle.dc_units.specs.Value.{value_in}

-- the point of a record with a quantity and a power of ten
abbrev pub point_with : Entry → Quantity → ℤ → Point
point_with e quantity exponent = record {
  storage = e.storage;
  function = e.function;
  tariff = e.tariff;
  subunit = e.subunit;
  quantity = quantity;
  value = value_in quantity exponent e.field e.content;
}

-- A VIB is a code of a row: what stands before the row's codes, one of these, and nothing more.
pub record IsCodeOf (row : Row) (vib : List ℕ) (code : ℕ) : Type 0 where
  pub parts : vib ≡ row.before ++ (code ∷ [])
  pub from_first : row.first ≤ code
  pub to_last : code ≤ row.last

-- A record is a point: its VIB is a code of a row of the table, its data field is allowed there, and its
-- data has that field's length. The point has the row's quantity and the code's power of ten.
pub record IsPoint (e : Entry) (p : Point) : Type 0 where
  pub row : Row
  pub in_table : Contains table row
  pub code : ℕ
  pub code_of : IsCodeOf row e.vib code
  pub field : IsTrue (takes row.quantity e.field)
  pub whole : length e.content ≡ width e.field
  pub is : p ≡ point_with e row.quantity (row.exponent +ℤ pos (code - row.first))

-- a fact of the point that a record is seen as
abbrev pub IfPoint : Seen → (Point → Type 0) → Type 0
IfPoint (Known p) P = P p
IfPoint Other P = ⊤

-- The same as a function: the row of the record's VIB is looked up, and in it the record is a point where
-- its data field is allowed and its data has that field's length. Without such a row it is other.
abbrev pub seen_in : Entry → Option Row → Seen
seen_in e None = Other
seen_in e (Some row) =
    if takes row.quantity e.field && (length e.content == width e.field)
    then Known (point_with e row.quantity (exponent_of e.vib row)) else Other

-- what a record is seen as
abbrev pub seen_of : Entry → Seen
seen_of e = seen_in e (row_of e.vib)
