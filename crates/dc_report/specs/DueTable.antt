-- The due-date table (this product): of each meter that has a due-date value for the date, the last reading that has
-- one; these readings by flat and then identity, with a line for each point of their value.
use Rattle.std.specs.Prelude.{ℕ, Bool, not, ◌&&◌, nat_lt, List, [], ◌∷◌, ◌++◌, map, filter, codes}
use Rattle.std.specs.List.{flat_map, list_any}
use Rattle.std.specs.Fmt.{decimal}
use Rattle.std.specs.Ordering.{is_eq}
use Rattle.dc_address.specs.Identity.{identity_cmp}
use Rattle.dc_address.specs.Text.{text_of}
use Rattle.dc_units.specs.declared.point.Point.{Point}
use Rattle.dc_units.specs.Date.{Day}
use Rattle.dc_units.specs.Quantity.{unit_of}
use Rattle.dc_units.specs.Text.{value_text}
use Rattle.mbdc_change.specs.State.{State, ReadingRow}
use Rattle.dc_meters.specs.Points.{points_of}
use Rattle.dc_meters.specs.Due.{due_value, has_value}
use Rattle.dc_meters.specs.declared.place.Place.{Place}
use Rattle.dc_report.specs.declared.row.Row.{Row}
use Rattle.dc_report.specs.Ascending.{sorted_by}
use Rattle.dc_meters.specs.Places.{place_cmp}
use Rattle.dc_report.specs.TableLine.{line_text}

-- ---- which readings

-- a reading of the same meter and a greater serial that has a value for the date too
abbrev pub is_later : Day → ReadingRow → ReadingRow → Bool
is_later date r other = is_eq (identity_cmp r.meter other.meter) &&
    (nat_lt r.serial other.serial && has_value date other)

-- the reading has a value for the date, and no later reading of its meter has one
abbrev pub is_last : Day → List ReadingRow → ReadingRow → Bool
is_last date readings r = has_value date r && not (list_any (is_later date r) readings)

-- of each meter, the last reading with a value for the date
abbrev pub last_readings : Day → List ReadingRow → List ReadingRow
last_readings date readings = filter (is_last date readings) readings

-- ---- in which order: by the flat at the readout, byte by byte, and then by identity

-- the sort key of a reading: its flat and its meter
abbrev pub reading_place : ReadingRow → Place
reading_place r = record { flat = r.flat; meter = r.meter }

-- the readings of the table, in its order
abbrev pub due_readings : Day → List ReadingRow → List ReadingRow
due_readings date readings = sorted_by place_cmp reading_place (last_readings date readings)

-- ---- which rows: the points of each reading's value, in order of parts and records

-- a row: a point with its reading's flat, meter and serial
abbrev pub row_of : ReadingRow → Point → Row
row_of r p = record { flat = r.flat; meter = r.meter; serial = r.serial; point = p }

-- the rows of a reading: the points of its due-date value
abbrev pub reading_rows : Day → ReadingRow → List Row
reading_rows date r = map (row_of r) (due_value date (points_of r.parts))

-- the rows of the table for the date
abbrev pub due_rows : Day → State → List Row
due_rows date s = flat_map (reading_rows date) (due_readings date s.readings)

-- ---- their lines

-- the names of the columns
abbrev pub due_header : List (List ℕ)
due_header = codes "flat" ∷ codes "meter" ∷ codes "serial" ∷ codes "storage" ∷ codes "function"
    ∷ codes "tariff" ∷ codes "subunit" ∷ codes "value" ∷ codes "unit" ∷ []

-- the fields of a row, in the order of the columns
abbrev pub due_fields : Row → List (List ℕ)
due_fields row =
    row.flat ∷ text_of row.meter ∷ decimal row.serial ∷ decimal row.point.storage
    ∷ decimal row.point.function ∷ decimal row.point.tariff
    ∷ decimal row.point.subunit ∷ value_text row.point.value ∷ unit_of row.point.quantity ∷ []

-- the line of a row
abbrev pub due_line : Row → List ℕ
due_line row = line_text (due_fields row)

-- the table: the header's line, then the lines of the rows
abbrev pub due_text : Day → State → List ℕ
due_text date s = line_text due_header ++ flat_map due_line (due_rows date s)
