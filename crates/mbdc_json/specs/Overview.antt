-- The cells of the table of a house's meters for a person (this product): a line for each registered meter.
use Rattle.std.specs.Prelude.{ℕ, ◌/◌, ◌%◌, ◌==◌, nat_lt, Bool, true, false, List, [], ◌∷◌, ◌++◌, take, codes, decimal}
use Rattle.std.specs.Prelude.{Option, None, Some, if◌then◌else◌}
use Rattle.std.specs.List.{flat_map}
use Rattle.mbdc_change.specs.State.{State}
use Rattle.dc_address.specs.Text.{text_of}
use Rattle.dc_meters.specs.Places.{by_flat}
use Rattle.dc_meters.specs.declared.place.Place.{Place}
use Rattle.dc_records.specs.Fields.{application_name}
use Rattle.dc_records.specs.Media.{medium_name}
use Rattle.mbdc_reading.specs.Headline.{headline}
use Rattle.mbdc_reading.specs.Reading.{reading_of}
use Rattle.mbdc_reading.specs.Sent.{Sent}
use Rattle.mbdc_reading.specs.Text.{unit_text, value_text_of}
use Rattle.mbdc_shown.specs.Stand.{bodies_sent}
use Rattle.mbdc_json.specs.Journal.{Notes}
use Rattle.mbdc_json.specs.LatestValues.{shown_word, value_word}
use Rattle.mbdc_json.specs.Row.{row_at}
use Rattle.mbdc_json.specs.Shown.{shown_of}
use Rattle.mbdc_json.specs.Status.{failure_name}
use Rattle.mbdc_json.specs.declared.latest.reading.Shown.{Shown}
use Rattle.mbdc_json.specs.declared.status.row.Row.{Row}
use Rattle.mbdc_json.specs.declared.status.row.Told.{Told}

-- the names of the columns
unfoldable pub titles : List ℕ
titles = codes "FLAT\tMETER\tMEDIUM\tVALUE\tUNIT\tHEARD\tSTATE\n"

-- ---- what the meter stands at

-- the value and the unit of a record; a dash for what isn't there
unfoldable pub sent_cells : Sent → List ℕ
sent_cells s = value_word (value_text_of (reading_of s.entry s.len) s.entry.content)
    ++ (codes "\t" ++ (shown_word (unit_text (reading_of s.entry s.len) s.entry.vib) ++ codes "\t"))

-- those of the first record of a headline
abbrev pub first_cells : List Sent → List ℕ
first_cells [] = codes "-\t-\t"
first_cells (s ∷ ss) = sent_cells s

abbrev pub value_cells : ℕ → Option Shown → List ℕ
value_cells kind None = codes "-\t-\t"
value_cells kind (Some shown) = first_cells (headline kind (bodies_sent shown.bodies))

-- ---- its state, and when it was heard

-- the most serious state that a status byte reports (EN 13757-3, long data header); none for a meter in order
unfoldable pub reported : ℕ → List ℕ
reported status =
    if status / 8 % 2 == 1 then codes "permanent error"
    else if status / 16 % 2 == 1 then codes "temporary error"
    else if status / 4 % 2 == 1 then codes "power low"
    else if status % 4 == 0 then []
    else application_name status

abbrev pub reported_in : Option ℕ → List ℕ
reported_in None = []
reported_in (Some status) = reported status

-- the number of the failure of the last readout since the meter was heard
abbrev pub failure_since : Option ℕ → ℕ → Option ℕ
failure_since None number = None
failure_since (Some moment) number = Some number

abbrev pub failure_in : Option Told → Option ℕ
failure_in None = None
failure_in (Some told) = failure_since told.failed told.number

abbrev pub state_by : Bool → Option ℕ → Option ℕ → List ℕ
state_by true failure status = codes "SILENT"
state_by false (Some number) status = codes "FAILED"
state_by false None status = reported_in status

-- how long ago: in minutes below two hours, in hours below two days, else in days
abbrev pub ago_words : ℕ → List ℕ
ago_words age =
    if nat_lt age 7200 then decimal (age / 60) ++ codes " min"
    else if nat_lt age 172800 then decimal (age / 3600) ++ codes " h"
    else decimal (age / 86400) ++ codes " d"

abbrev pub age_words : Option ℕ → List ℕ
age_words None = codes "never"
age_words (Some age) = ago_words age

abbrev pub failure_words : Option ℕ → List ℕ
failure_words None = codes "\n"
failure_words (Some number) = codes " " ++ (failure_name number ++ codes "\n")

-- ---- the table

unfoldable pub state_cells : Row → List ℕ
state_cells row = age_words row.age ++ (codes "\t"
    ++ (state_by row.is_silent (failure_in row.told) row.status ++ failure_words (failure_in row.told)))

-- the line of a meter: its place, what it stands at, when it was heard, and its state
unfoldable pub overview_line : ℕ → ℕ → Notes → State → Place → List ℕ
overview_line patience now journal s place = place.flat ++ (codes "\t" ++ (take 8 (text_of place.meter) ++ (codes "\t"
    ++ (medium_name place.meter.kind ++ (codes "\t" ++ (value_cells place.meter.kind (shown_of journal s place.meter)
    ++ state_cells (row_at patience now journal s place)))))))

-- THE TABLE at a clock, where a meter is silent after so many seconds
unfoldable pub overview_text : ℕ → ℕ → Notes → State → List ℕ
overview_text patience now journal s = titles ++ flat_map (overview_line patience now journal s) (by_flat s.meters)
