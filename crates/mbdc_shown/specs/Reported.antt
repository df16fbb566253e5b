-- What the telegrams of a reading report, as JSON (this product): the fields of a reading but its serial.
use Rattle.std.specs.Prelude.{ℕ, List, [], ◌∷◌, ◌++◌, codes, map}
use Rattle.mbdc_reading.specs.Headline.{headline}
use Rattle.mbdc_reading.specs.Sent.{Sent}
use Rattle.mbdc_decode.specs.Object.{Field, object_of, array_of, count}
use Rattle.mbdc_decode.specs.Meter.{status_fields}
use Rattle.mbdc_decode.specs.Record.{record_json, value_json}
use Rattle.mbdc_shown.specs.Stand.{listed}
use Rattle.mbdc_shown.specs.Utc.{minute_of}
use Rattle.mbdc_shown.specs.declared.stand.Current.TheVariants.{Values, Also}

-- records, an object each
unfoldable pub records_field : List ℕ → List Sent → Field
records_field name ss = (name, array_of (map record_json ss))

-- of the records of a meter of this device type its headline, the current ones that the due-date table has, and the others that are
-- read
unfoldable pub told_fields : ℕ → List Sent → List Field
told_fields kind ss =
    records_field (codes "headline") (headline kind ss)
    ∷ records_field (codes "values") (listed Values ss)
    ∷ records_field (codes "also") (listed Also ss)
    ∷ []

-- when a telegram was received, in seconds since 1970 and as the minute in UTC, and the status that it reports
unfoldable pub received_fields : ℕ → ℕ → List Field
received_fields moment status =
    (codes "moment", count moment)
    ∷ (codes "utc", value_json (minute_of moment))
    ∷ (codes "status", object_of (status_fields status))
    ∷ []

-- when the last one was received, its status, and what the records of all tell
unfoldable pub reported_fields : ℕ → ℕ → ℕ → List Sent → List Field
reported_fields moment status kind ss = received_fields moment status ++ told_fields kind ss
