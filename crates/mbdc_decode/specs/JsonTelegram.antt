-- A telegram as JSON (this product; the fields are those of EN 13757-3, variable data structure).
use Rattle.std.specs.Prelude.{Bool, true, false, List, [], ◌∷◌, ◌++◌, codes, drop, map}
use Rattle.mbdc_io.specs.Hex.{upper_hex}
use Rattle.json.specs.Json.{Json, string, boolean, null}
use Rattle.dc_records.specs.declared.header.Header.{Header}
use Rattle.dc_records.specs.Body.{Ending, plain, last, more}
use Rattle.dc_records.specs.Telegram.{Parsed}
use Rattle.mbdc_decode.specs.Object.{Field, object_of, array_of, count}
use Rattle.mbdc_decode.specs.Meter.{identity_fields, status_fields}
use Rattle.mbdc_reading.specs.Sent.{Sent, sent_at}
use Rattle.mbdc_decode.specs.Record.{record_json}

-- the meter's identity, the access number and the status byte
unfoldable pub header_fields : Header → List Field
header_fields h =
    (codes "meter", object_of (identity_fields h.identity))
    ∷ (codes "access", count h.access)
    ∷ (codes "status", object_of (status_fields h.status))
    ∷ []

-- whether more records follow in the next telegram, and the manufacturer's data
unfoldable pub ending_fields : Bool → Json → List Field
ending_fields more_follows data_sent =
    (codes "more", boolean more_follows) ∷ (codes "manufacturer_data", data_sent) ∷ []

unfoldable pub end_fields : Ending → List Field
end_fields plain = ending_fields false null
end_fields (last rest) = ending_fields false (string (upper_hex rest))
end_fields (more rest) = ending_fields true (string (upper_hex rest))

unfoldable pub records_field : List Sent → Field
records_field records = (codes "records", array_of (map record_json records))

unfoldable pub telegram_fields : Parsed → List Field
telegram_fields t = header_fields t.header ++ (records_field (sent_at (drop 12 t.body)) ∷ end_fields t.ending)
