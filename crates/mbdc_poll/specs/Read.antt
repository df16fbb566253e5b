-- What the telegrams of a reading report (this product).
use Rattle.std.specs.Prelude.{ℕ, List, [], Option, None, Some, Result, Ok, Err}
use Rattle.json.specs.Json.{Json, string}
use Rattle.mbdc_change.specs.State.{PartRow}
use Rattle.mbdc_io.specs.Hex.{upper_hex}
use Rattle.mbdc_shown.specs.Reported.{reported_fields}
use Rattle.mbdc_shown.specs.Stand.{bodies_sent}
use Rattle.dc_records.specs.Telegram.{Parsed, telegram_at}
use Rattle.dc_records.specs.declared.fault.BodyFault.{BodyFault}
use Rattle.mbdc_decode.specs.Object.{Field}

-- the bytes of a body
abbrev pub hex_json : List ℕ → Json
hex_json body = string (upper_hex body)

-- what all telegrams report; the last one, which a part always is, has the status
abbrev pub reported_by : ℕ → ℕ → List (List ℕ) → Result Parsed BodyFault → List Field
reported_by moment kind bodies (Ok telegram) = reported_fields moment telegram.header.status kind (bodies_sent bodies)
reported_by moment kind bodies (Err fault) = []

-- with the moment and the status of the last part, of a meter of this device type
abbrev pub last_fields : ℕ → List (List ℕ) → Option PartRow → List Field
last_fields kind bodies None = []
last_fields kind bodies (Some part) = reported_by part.moment kind bodies (telegram_at part.body)
