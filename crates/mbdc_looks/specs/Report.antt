-- The rows of the tables of `report` as JSON Lines (this product; the rows are those of its tables as text).
use Rattle.std.specs.Prelude.{ℕ, List, [], ◌∷◌, length, codes, Option, Some, None}
use Rattle.std.specs.List.{flat_map}
use Rattle.json.specs.Json.{Json, string, null}
use Rattle.mbdc_change.specs.State.{State, MeterRow, row_of}
use Rattle.dc_meters.specs.declared.place.Place.{Place}
use Rattle.dc_meters.specs.Places.{by_flat}
use Rattle.dc_records.specs.Fields.{function_name}
use Rattle.dc_report.specs.declared.row.Row.{Row}
use Rattle.dc_report.specs.DueTable.{due_rows}
use Rattle.dc_units.specs.Date.{Day}
use Rattle.dc_units.specs.Quantity.{unit_of}
use Rattle.dc_units.specs.declared.value.Value.TheVariants.{Day as OnDay}
use Rattle.mbdc_decode.specs.Object.{object_of, count}
use Rattle.mbdc_decode.specs.Meter.{identity_fields}
use Rattle.mbdc_decode.specs.Record.{value_json, unit_json}
use Rattle.mbdc_decode.specs.JsonText.{value_line}

-- a primary address; null for secondary addressing
abbrev pub address_json : Option ℕ → Json
address_json None = null
address_json (Some address) = count address

-- a registered meter: its flat, its bus line and address, and the number of its open parts
unfoldable pub meter_json : Place → MeterRow → Json
meter_json place row = object_of (
    (codes "flat", string place.flat)
    ∷ (codes "meter", object_of (identity_fields place.meter))
    ∷ (codes "line", count row.line)
    ∷ (codes "address", address_json row.address)
    ∷ (codes "open", count (length row.parts))
    ∷ [])

-- the line of a registered meter; empty for any other
abbrev pub meter_line : Place → Option MeterRow → List ℕ
meter_line place None = []
meter_line place (Some row) = value_line (meter_json place row)

-- the line of the meter at a place
abbrev pub line_at : State → Place → List ℕ
line_at s place = meter_line place (row_of place.meter s)

-- the register: an object for each meter, by flat and then identity
unfoldable pub register_lines : State → List ℕ
register_lines s = flat_map (line_at s) (by_flat s.meters)

-- a row of the due-date table: the date, the flat and the meter, the serial of its reading, the point's numbers, and its value
unfoldable pub row_json : Day → Row → Json
row_json date row = object_of (
    (codes "date", value_json (OnDay date))
    ∷ (codes "flat", string row.flat)
    ∷ (codes "meter", object_of (identity_fields row.meter))
    ∷ (codes "serial", count row.serial)
    ∷ (codes "storage", count row.point.storage)
    ∷ (codes "tariff", count row.point.tariff)
    ∷ (codes "subunit", count row.point.subunit)
    ∷ (codes "function", string (function_name row.point.function))
    ∷ (codes "value", value_json row.point.value)
    ∷ (codes "unit", unit_json (unit_of row.point.quantity))
    ∷ [])

abbrev pub row_line : Day → Row → List ℕ
row_line date row = value_line (row_json date row)

-- the due-date table for a date: an object for each row
abbrev pub due_lines : Day → State → List ℕ
due_lines date s = flat_map (row_line date) (due_rows date s)
