-- The lines of `status` as JSON objects (RFC 8259; this product), a line each.
use Rattle.std.specs.Prelude.{ℕ, Bool, true, false, List, [], ◌∷◌, ◌++◌, codes, Option, None, Some}
use Rattle.std.specs.List.{flat_map}
use Rattle.json.specs.Json.{Json, string, boolean, null}
use Rattle.mbdc_change.specs.Size.{size_of}
use Rattle.mbdc_change.specs.State.{State, Held}
use Rattle.dc_meters.specs.Places.{by_flat}
use Rattle.dc_meters.specs.declared.place.Place.{Place}
use Rattle.mbdc_decode.specs.Object.{object_of, count}
use Rattle.mbdc_decode.specs.Meter.{identity_fields, status_fields}
use Rattle.mbdc_decode.specs.Record.{value_json}
use Rattle.mbdc_decode.specs.JsonText.{value_line}
use Rattle.mbdc_shown.specs.Utc.{minute_of}
use Rattle.mbdc_json.specs.Journal.{Notes}
use Rattle.mbdc_json.specs.Row.{row_at}
use Rattle.mbdc_shown.specs.Room.{readings_left}
use Rattle.mbdc_json.specs.Status.{days_left, failure_name}
use Rattle.mbdc_json.specs.declared.status.row.Row.{Row}
use Rattle.mbdc_json.specs.declared.status.row.Told.{Told}

-- a number, or null
abbrev pub maybe_json : Option ℕ → Json
maybe_json None = null
maybe_json (Some number) = count number

-- the minute (UTC) of a moment
abbrev pub utc_json : Option ℕ → Json
utc_json None = null
utc_json (Some moment) = value_json (minute_of moment)

-- a status byte
abbrev pub state_json : Option ℕ → Json
state_json None = null
state_json (Some status) = object_of (status_fields status)

-- where the reading comes from
abbrev pub source_json : Bool → Option ℕ → Json
source_json true heard = string (codes "journal")
source_json false None = null
source_json false (Some moment) = string (codes "image")

abbrev pub failure_json : Option ℕ → ℕ → Json
failure_json None number = null
failure_json (Some moment) number = string (failure_name number)

-- of a meter where there is no journal
unfoldable pub plain_object : Row → List ℕ
plain_object row = value_line (object_of (
    (codes "flat", string row.flat)
    ∷ (codes "meter", object_of (identity_fields row.meter))
    ∷ (codes "moment", maybe_json row.heard)
    ∷ (codes "utc", utc_json row.heard)
    ∷ (codes "age", maybe_json row.age)
    ∷ (codes "silent", boolean row.is_silent)
    ∷ (codes "status", state_json row.status)
    ∷ []))

-- and where there is one, of which this is told
unfoldable pub told_object : Told → Row → List ℕ
told_object told row = value_line (object_of (
    (codes "flat", string row.flat)
    ∷ (codes "meter", object_of (identity_fields row.meter))
    ∷ (codes "moment", maybe_json row.heard)
    ∷ (codes "utc", utc_json row.heard)
    ∷ (codes "age", maybe_json row.age)
    ∷ (codes "silent", boolean row.is_silent)
    ∷ (codes "status", state_json row.status)
    ∷ (codes "from", source_json told.is_noted row.heard)
    ∷ (codes "failed", maybe_json told.failed)
    ∷ (codes "failed_utc", utc_json told.failed)
    ∷ (codes "failure", failure_json told.failed told.number)
    ∷ []))

abbrev pub object_by : Option Told → Row → List ℕ
object_by None row = plain_object row
object_by (Some told) row = told_object told row

-- THE OBJECT OF A METER
unfoldable pub row_object : Row → List ℕ
row_object row = object_by row.told row

-- that of a meter at a clock, which is silent after so many seconds
abbrev pub object_at : ℕ → ℕ → Notes → State → Place → List ℕ
object_at patience now journal s place = row_object (row_at patience now journal s place)

-- THE OBJECTS at a clock, and how full the image is
unfoldable pub status_objects : ℕ → ℕ → Notes → Held → List ℕ
status_objects patience now journal house = flat_map (object_at patience now journal house.state) (by_flat house.state.meters)
    ++ value_line (object_of (
    (codes "bytes", count (size_of house.state))
    ∷ (codes "budget", count house.budget)
    ∷ (codes "days", maybe_json (days_left house.budget now house.state))
    ∷ (codes "room", maybe_json (readings_left house.budget house.state))
    ∷ []))
