-- The lines of `status` (this product): of each registered meter when it was last heard, and how full the image is.
use Rattle.std.specs.Prelude.{ℕ, ◌-◌, ◌/◌, max, ◌==◌, if◌then◌else◌, Bool, true, false, List, [], ◌++◌}
use Rattle.std.specs.Prelude.{codes, slice_get, Option, None, Some}
use Rattle.std.specs.List.{flat_map, list_any}
use Rattle.mbdc_io.specs.Words.{number_word}
use Rattle.dc_address.specs.Text.{text_of}
use Rattle.dc_units.specs.Text.{value_text}
use Rattle.mbdc_change.specs.Size.{size_of, empty_size}
use Rattle.mbdc_change.specs.State.{State, Held, ReadingRow}
use Rattle.dc_meters.specs.Places.{by_flat}
use Rattle.dc_meters.specs.declared.place.Place.{Place}
use Rattle.mbdc_json.specs.LatestValues.{byte_words}
use Rattle.mbdc_json.specs.Heard.{ago, moment_of}
use Rattle.mbdc_json.specs.Journal.{Notes}
use Rattle.mbdc_json.specs.Row.{row_at}
use Rattle.mbdc_shown.specs.Room.{number_line, readings_left, room_words}
use Rattle.mbdc_shown.specs.Utc.{minute_of}
use Rattle.dc_readout.specs.Why.{name_of}
use Rattle.dc_readout.specs.declared.why.Why.TheVariants.{NoAnswer, WrongFrame, WrongAddress}
use Rattle.dc_readout.specs.declared.why.Why.TheVariants.{ApplicationError, Content, Stranger, TooManyParts}
use Rattle.dc_records.specs.declared.fault.BodyFault.TheVariants.{Short}
use Rattle.mbdc_json.specs.declared.status.row.Row.{Row}
use Rattle.mbdc_json.specs.declared.status.row.Told.{Told}

-- ---- the line of a meter

-- the minute (UTC), and the seconds since
unfoldable pub heard_words : Option ℕ → Option ℕ → List ℕ
heard_words None age = codes " NONE"
heard_words (Some moment) None = codes " NONE"
heard_words (Some moment) (Some age) = codes " " ++ (value_text (minute_of moment)
    ++ (codes "Z" ++ number_word age))

abbrev pub silent_words : Bool → List ℕ
silent_words true = codes " SILENT"
silent_words false = []

-- what the last reading says of the meter
abbrev pub state_words : Option ℕ → List ℕ
state_words None = []
state_words (Some status) = byte_words status

-- the reading is the journal's
abbrev pub source_words : Option Told → List ℕ
source_words None = []
source_words (Some told) = if told.is_noted then codes " JOURNAL" else []

-- the name of a failure by its number
unfoldable pub failure_name : ℕ → List ℕ
failure_name number =
    if number == 1 then name_of NoAnswer else
    if number == 2 then name_of WrongFrame else
    if number == 3 then name_of WrongAddress else
    if number == 4 then name_of ApplicationError else
    if number == 5 then name_of (Content Short) else
    if number == 6 then name_of Stranger else
    if number == 7 then name_of TooManyParts else codes "Other"

unfoldable pub failed_words : ℕ → ℕ → List ℕ
failed_words moment number = codes "FAILED " ++ (value_text (minute_of moment)
    ++ (codes "Z" ++ number_word number))

unfoldable pub name_end : ℕ → List ℕ
name_end number = codes " " ++ (failure_name number ++ codes "\n")

-- the last failed readout since: its minute (UTC), its number and its name
unfoldable pub failed_line : ℕ → ℕ → List ℕ
failed_line moment number = failed_words moment number ++ name_end number

abbrev pub failed_since : Option ℕ → ℕ → List ℕ
failed_since None number = []
failed_since (Some moment) number = failed_line moment number

abbrev pub failed_text : Option Told → List ℕ
failed_text None = []
failed_text (Some told) = failed_since told.failed told.number

unfoldable pub row_text : Row → List ℕ
row_text row = codes "METER " ++ (row.flat ++ (codes " " ++ (text_of row.meter
    ++ (heard_words row.heard row.age
    ++ (silent_words row.is_silent ++ (state_words row.status
    ++ (source_words row.told ++ (codes "\n" ++ failed_text row.told))))))))

-- ---- how full it is

-- when the first reading that is held began
abbrev pub began : Option ReadingRow → Option ℕ
began None = None
began (Some r) = moment_of (slice_get r.parts 0)

abbrev pub first_moment : State → Option ℕ
first_moment s = began (slice_get s.readings 0)

-- the whole days since then, at least one
abbrev pub days_since : ℕ → ℕ → ℕ
days_since now first = max 1 (ago now first / 86400)

-- what is held came at so many bytes a day
abbrev pub bytes_a_day : ℕ → State → Option ℕ → ℕ
bytes_a_day now s None = 0
bytes_a_day now s (Some first) = (size_of s - empty_size) / days_since now first

-- in how many days the budget is spent at this pace; none where there is no pace
abbrev pub days_left : ℕ → ℕ → State → Option ℕ
days_left budget now s =
    if bytes_a_day now s (first_moment s) == 0 then None
    else Some ((budget - size_of s) / bytes_a_day now s (first_moment s))

-- ---- all

-- a meter at a clock, which is silent after so many seconds
abbrev pub row_line : ℕ → ℕ → Notes → State → Place → List ℕ
row_line patience now journal s place = row_text (row_at patience now journal s place)

-- THE TEXT at a clock, where a meter is silent after so many seconds
unfoldable pub status_text : ℕ → ℕ → Notes → Held → List ℕ
status_text patience now journal house = flat_map (row_line patience now journal house.state) (by_flat house.state.meters)
    ++ (codes "SIZE" ++ (number_word (size_of house.state) ++ (number_word house.budget ++ (codes "\n"
    ++ (number_line (codes "DAYS") (days_left house.budget now house.state)
    ++ room_words (readings_left house.budget house.state))))))

-- one of them is silent
abbrev pub any_silent : ℕ → ℕ → Notes → State → Bool
any_silent patience now journal s =
    list_any (λ (place : Place). (row_at patience now journal s place).is_silent) (by_flat s.meters)
