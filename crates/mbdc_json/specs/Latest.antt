-- What the meters of a house stand at, beside a journal (this product): of each registered meter the last reading that
-- the register holds, or that of the journal, where it is later.
use Rattle.std.specs.Prelude.{ℕ, List, ◌++◌, codes}
use Rattle.std.specs.List.{flat_map}
use Rattle.mbdc_change.specs.State.{State}
use Rattle.dc_address.specs.Text.{text_of}
use Rattle.dc_records.specs.Media.{medium_name}
use Rattle.dc_meters.specs.Places.{by_flat}
use Rattle.dc_meters.specs.declared.place.Place.{Place}
use Rattle.mbdc_json.specs.Journal.{Notes}
use Rattle.mbdc_json.specs.LatestValues.{shown_words}
use Rattle.mbdc_json.specs.Shown.{shown_of}

unfoldable pub meter_text : Notes → State → Place → List ℕ
meter_text journal s place = codes "METER " ++ (place.flat ++ (codes " " ++ (text_of place.meter
    ++ (codes " " ++ (medium_name place.meter.kind ++ shown_words place.meter.kind (shown_of journal s place.meter))))))

-- THE LINES of each registered meter, by flat and then by identity
unfoldable pub values_text : Notes → State → List ℕ
values_text journal s = flat_map (meter_text journal s) (by_flat s.meters)
