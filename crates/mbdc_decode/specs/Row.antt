-- A row, as the fields of a JSON object (RFC 8259; this product): each cell is a name and what it has.
use Rattle.std.specs.Prelude.{List, map}
use Rattle.json.specs.Json.{Json, string, boolean, null}
use Rattle.mbdc_io.specs.Hex.{upper_hex}
use Rattle.mbdc_decode.specs.Object.{Field, object_of, count}
use Rattle.mbdc_decode.specs.Meter.{identity_fields, status_fields}
use Rattle.mbdc_decode.specs.Record.{value_json, unit_json}
use Rattle.mbdc_decode.specs.declared.objects.row.Cell.{Cell}
use Rattle.mbdc_decode.specs.declared.objects.row.Cell.TheVariants.{Null, Number, Flag, Text, Hex, Meter}
use Rattle.mbdc_decode.specs.declared.objects.row.Cell.TheVariants.{Status, Value, Unit}

abbrev pub field_of : Cell → Field
field_of (Null name) = (name.now, null)
field_of (Number name number) = (name.now, count number)
field_of (Flag name flag) = (name.now, boolean flag)
field_of (Text name text) = (name.now, string text.now)
field_of (Hex name bytes) = (name.now, string (upper_hex bytes.now))
field_of (Meter name meter) = (name.now, object_of (identity_fields meter))
field_of (Status name status) = (name.now, object_of (status_fields status))
field_of (Value name value) = (name.now, value_json value)
field_of (Unit name unit) = (name.now, unit_json unit.now)

-- the fields of a row, in its order
abbrev pub row_fields : List Cell → List Field
row_fields row = map field_of row
