-- What the meters of a house stand at, as JSON Lines (this product): the lines of `values`, an object a meter.
use Rattle.std.specs.Prelude.{ℕ, Bool, true, false, List, [], ◌∷◌, ◌++◌, codes, Option, None, Some}
use Rattle.std.specs.List.{flat_map}
use Rattle.json.specs.Json.{Json, string, null}
use Rattle.mbdc_change.specs.State.{State}
use Rattle.dc_meters.specs.Places.{by_flat}
use Rattle.dc_meters.specs.declared.place.Place.{Place}
use Rattle.mbdc_json.specs.Journal.{Notes}
use Rattle.mbdc_json.specs.Shown.{shown_of}
use Rattle.mbdc_json.specs.declared.latest.reading.Shown.{Shown}
use Rattle.mbdc_decode.specs.Object.{Field, object_of, count}
use Rattle.mbdc_decode.specs.Meter.{identity_fields}
use Rattle.mbdc_decode.specs.JsonText.{value_line}
use Rattle.mbdc_shown.specs.Reported.{reported_fields}
use Rattle.mbdc_shown.specs.Stand.{bodies_sent}

-- a reading of a meter of this device type
unfoldable pub reading_json : ℕ → Shown → Json
reading_json kind r =
    object_of ((codes "serial", count r.serial) ∷ reported_fields r.moment r.status kind (bodies_sent r.bodies))

-- null where none is shown
abbrev pub shown_json : ℕ → Option Shown → Json
shown_json kind None = null
shown_json kind (Some r) = reading_json kind r

abbrev pub is_noted : Option Shown → Bool
is_noted None = false
is_noted (Some r) = r.is_noted

-- the flat and the meter, and whether the reading is the journal's
unfoldable pub place_fields : Place → Bool → List Field
place_fields place true = (codes "flat", string place.flat) ∷ (codes "meter", object_of (identity_fields place.meter))
    ∷ (codes "from", string (codes "journal")) ∷ []
place_fields place false =
    (codes "flat", string place.flat) ∷ (codes "meter", object_of (identity_fields place.meter)) ∷ []

-- a registered meter, and its reading
unfoldable pub stands_json : Place → Option Shown → Json
stands_json place shown =
    object_of (place_fields place (is_noted shown) ++ (codes "reading", shown_json place.meter.kind shown) ∷ [])

abbrev pub stands_line : Notes → State → Place → List ℕ
stands_line journal s place = value_line (stands_json place (shown_of journal s place.meter))

-- THE LINES of each registered meter, by flat and then by identity
unfoldable pub values_lines : Notes → State → List ℕ
values_lines journal s = flat_map (stands_line journal s) (by_flat s.meters)
