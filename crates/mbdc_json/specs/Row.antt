-- What is told of a registered meter at a clock (this product): the row of `status`, in any form.
use Rattle.std.specs.Prelude.{ℕ, Bool, true, false, if◌then◌else◌, nat_le, nat_lt, Option, None, Some, Result, Ok, Err}
use Rattle.std.specs.Prelude.{option_map}
use Rattle.dc_address.specs.declared.identity.Identity.{Identity}
use Rattle.mbdc_change.specs.Fields.{last_moment}
use Rattle.mbdc_json.specs.Journal.{Notes, noted_in}
use Rattle.mbdc_json.specs.declared.journal.noted.Failing.{Failing}
use Rattle.mbdc_json.specs.declared.journal.noted.Taken.{Taken}
use Rattle.dc_records.specs.declared.fault.BodyFault.{BodyFault}
use Rattle.dc_records.specs.Telegram.{Parsed, telegram_at}
use Rattle.mbdc_change.specs.State.{State, PartRow}
use Rattle.dc_meters.specs.declared.place.Place.{Place}
use Rattle.mbdc_json.specs.LatestValues.{last_reading}
use Rattle.mbdc_json.specs.Heard.{ago, heard, is_silent, part_in}
use Rattle.mbdc_json.specs.declared.status.row.Row.{Row}
use Rattle.mbdc_json.specs.declared.status.row.Told.{Told}

-- the status byte of a telegram, which a part always is
abbrev pub code_in : Result Parsed BodyFault → Option ℕ
code_in (Ok telegram) = Some telegram.header.status
code_in (Err fault) = None

unfoldable pub code_of : Option PartRow → Option ℕ
code_of None = None
code_of (Some part) = code_in (telegram_at part.body)

-- ---- what the journal says

-- a moment that is a time stamp
abbrev pub within : ℕ → Option ℕ
within moment = if nat_le moment last_moment then Some moment else None

abbrev pub taken_at : Option Taken → Option ℕ
taken_at None = None
taken_at (Some taken) = within taken.moment

abbrev pub is_later : Option ℕ → Option ℕ → Bool
is_later None held = false
is_later (Some noted) None = true
is_later (Some noted) (Some held) = nat_lt held noted

-- the journal has a later reading than what the image holds
abbrev pub is_noted : Option ℕ → Option ℕ → Bool
is_noted noted held = is_later noted held

abbrev pub status_in : Option Taken → Option ℕ
status_in None = None
status_in (Some taken) = Some taken.status

abbrev pub failing_at : Option Failing → Option ℕ
failing_at None = None
failing_at (Some failing) = within failing.at

abbrev pub failing_since : Option Failing → Option ℕ
failing_since None = None
failing_since (Some failing) = Some failing.since

abbrev pub number_in : Option Failing → ℕ
number_in None = 0
number_in (Some failing) = failing.number

-- the later of both; at one moment the image's
abbrev pub heard_in : Option ℕ → Option ℕ → Option ℕ
heard_in noted held = if is_noted noted held then noted else held

-- when the last readout failed, where nothing was heard since
abbrev pub failed_by : Option Failing → Option ℕ → Option ℕ
failed_by failing heard = if is_later (failing_at failing) heard then failing_at failing else None

-- where there is a journal: whether the reading is its, and how the readouts since have failed
abbrev pub told_by : Notes → Identity → Option ℕ → Option Told
told_by journal meter held = if journal.is_there then Some (record {
  is_noted = is_noted (taken_at (noted_in journal.notes meter).read) held;
  failed = failed_by (noted_in journal.notes meter).failing
      (heard_in (taken_at (noted_in journal.notes meter).read) held);
  number = number_in (noted_in journal.notes meter).failing;
}) else None

unfoldable pub heard_by : Notes → State → Identity → Option ℕ
heard_by journal s meter = heard_in (taken_at (noted_in journal.notes meter).read) (heard s meter)

unfoldable pub status_by : Notes → State → Identity → Option ℕ
status_by journal s meter =
    if is_noted (taken_at (noted_in journal.notes meter).read) (heard s meter)
    then status_in (noted_in journal.notes meter).read
    else code_of (part_in (last_reading meter s))

-- its place, when it was last heard and how many seconds ago, whether it is silent after so many seconds, the status byte
-- of its last reading, and what the journal says, where there is one
unfoldable pub row_at : ℕ → ℕ → Notes → State → Place → Row
row_at patience now journal s place = record {
  flat = place.flat;
  meter = place.meter;
  heard = heard_by journal s place.meter;
  age = option_map (ago now) (heard_by journal s place.meter);
  is_silent = is_silent patience now s.confirmed (failing_since (noted_in journal.notes place.meter).failing)
      (heard_by journal s place.meter);
  status = status_by journal s place.meter;
  told = told_by journal place.meter (heard s place.meter);
}
