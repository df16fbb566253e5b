-- The register table (this product): a header, and a line for each meter, by flat and then identity.
use Rattle.std.specs.Prelude.{ℕ, List, [], ◌∷◌, ◌++◌, length, codes, Option, None, Some}
use Rattle.std.specs.List.{flat_map}
use Rattle.std.specs.Fmt.{decimal}
use Rattle.dc_address.specs.declared.identity.Identity.{Identity}
use Rattle.dc_address.specs.Text.{text_of}
use Rattle.mbdc_change.specs.State.{State, MeterRow, row_of}
use Rattle.mbdc_change.specs.Fields.{address_word}
use Rattle.dc_meters.specs.declared.place.Place.{Place}
use Rattle.dc_meters.specs.Places.{by_flat}
use Rattle.dc_report.specs.TableLine.{line_text}
use Rattle.dc_report.specs.Medium.{medium_text}

abbrev pub register_header : List (List ℕ)
register_header = codes "flat" ∷ codes "meter" ∷ codes "medium" ∷ codes "line" ∷ codes "address"
    ∷ codes "open" ∷ []

-- a meter's fields; the last is the number of its open parts
abbrev pub meter_fields : Identity → MeterRow → List (List ℕ)
meter_fields meter row = row.flat ∷ text_of meter ∷ medium_text meter.kind ∷ decimal row.line
    ∷ address_word row.address ∷ decimal (length row.parts) ∷ []

abbrev pub meter_line : Identity → Option MeterRow → List ℕ
meter_line meter None = []
meter_line meter (Some row) = line_text (meter_fields meter row)

-- the line of the meter at a place
abbrev pub line_at : State → Place → List ℕ
line_at s place = meter_line place.meter (row_of place.meter s)

abbrev pub register_text : State → List ℕ
register_text s = line_text register_header ++ flat_map (line_at s) (by_flat s.meters)
