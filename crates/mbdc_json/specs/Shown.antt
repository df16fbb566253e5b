-- The reading that is shown of a meter (this product): its last one that the register holds, or that of a journal, where it
-- is later.
use Rattle.std.specs.Prelude.{ℕ, ◌==◌, true, false, List, length, Option, None, Some, Result, Ok, Err, if◌then◌else◌}
use Rattle.std.specs.Option.{option_or}
use Rattle.dc_address.specs.declared.identity.Identity.{Identity}
use Rattle.dc_records.specs.declared.fault.BodyFault.{BodyFault}
use Rattle.dc_records.specs.Telegram.{Parsed, telegram_at}
use Rattle.mbdc_change.specs.State.{State, ReadingRow, PartRow}
use Rattle.mbdc_json.specs.Heard.{moment_of, part_in}
use Rattle.mbdc_json.specs.Journal.{Notes, noted_in, sent_in}
use Rattle.mbdc_json.specs.LatestValues.{last_part, last_reading}
use Rattle.mbdc_json.specs.Row.{is_later, taken_at}
use Rattle.mbdc_json.specs.declared.journal.noted.Taken.{Taken}
use Rattle.mbdc_json.specs.declared.latest.reading.Shown.{Shown}
use Rattle.mbdc_shown.specs.Stand.{bodies_of}

-- the status byte of a telegram, which a part always is
abbrev pub byte_in : Result Parsed BodyFault → ℕ
byte_in (Ok telegram) = telegram.header.status
byte_in (Err fault) = 0

-- a reading that the register holds, with this last part
abbrev pub held_with : ReadingRow → Option PartRow → Option Shown
held_with r None = None
held_with r (Some part) = Some (record {
  serial = r.serial;
  moment = part.moment;
  status = byte_in (telegram_at part.body);
  is_noted = false;
  bodies = bodies_of r.parts;
})

abbrev pub held_shown : Option ReadingRow → Option Shown
held_shown None = None
held_shown (Some r) = held_with r (last_part r)

-- one of the journal at this moment, where it is later than what is held and the line has its telegrams
abbrev pub noted_at : Taken → List (List ℕ) → Option ℕ → Option ℕ → Option Shown
noted_at taken bodies held None = None
noted_at taken bodies held (Some moment) =
    if length bodies == 0 then None
    else if is_later (Some moment) held then Some (record {
      serial = taken.serial;
      moment = moment;
      status = taken.status;
      is_noted = true;
      bodies = bodies;
    })
    else None

abbrev pub noted_with : Option Taken → List (List ℕ) → Option ℕ → Option Shown
noted_with None bodies held = None
noted_with (Some taken) bodies held = noted_at taken bodies held (taken_at (Some taken))

abbrev pub noted_shown : Notes → Identity → Option ℕ → Option Shown
noted_shown journal meter held = noted_with (noted_in journal.notes meter).read (sent_in journal.sent meter) held

-- THE READING THAT IS SHOWN of a meter
abbrev pub shown_of : Notes → State → Identity → Option Shown
shown_of journal s meter = option_or
    (noted_shown journal meter (moment_of (part_in (last_reading meter s))))
    (held_shown (last_reading meter s))
