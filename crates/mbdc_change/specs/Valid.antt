-- The valid changes and states: those that the encodings accept.
use Rattle.std.specs.Prelude.{ℕ, ◌<◌, List, ◌≤◌, Bool, length, map, All}
use Rattle.std.specs.Map.{keys_of, values_of}
use Rattle.std.specs.List.Sorted.{IsStrictlySortedBy}
use Rattle.std.specs.Ordering.{nat_cmp}
use Rattle.dc_address.specs.declared.identity.Identity.{Identity}
use Rattle.dc_address.specs.Identity.{identity_cmp}
use Rattle.mbdc_change.specs.declared.change.Change.{Change}
use Rattle.mbdc_change.specs.declared.change.Change.TheVariants.{Telegram, Command as Numbered}
use Rattle.mbdc_change.specs.Flat.{IsFlat}
use Rattle.mbdc_change.specs.Body.{BodyRow, IsBody}
use Rattle.mbdc_change.specs.State.{State, MeterRow, PartRow, ReadingRow}
use Rattle.mbdc_change.specs.Size.{size_of}
use Rattle.mbdc_change.specs.Fields.{IsAddress, IsBusLine, IsNumber, end_of_numbers, last_moment}
use Rattle.mbdc_change.specs.Fields.{most_parts}
use Rattle.mbdc_change.specs.Command.{IsCommand, longest_line}

-- ---- changes

-- the telegram's part number and time stamp are in range, and its body is valid
pub record IsTelegram (part moment : ℕ) (body : BodyRow) : Type 0 where
  pub part_fits : part ≤ most_parts
  pub moment_fits : moment ≤ last_moment
  pub body_is : IsBody body

-- a valid telegram, or a valid command with a valid number
abbrev pub IsChange : Change → Type 0
IsChange (Telegram part moment body) = IsTelegram part moment body
IsChange (Numbered number command) = IsNumber number × IsCommand command

-- ---- states

-- the body of some telegram
pub record IsBodyText (bytes : List ℕ) : Type 0 where
  pub meter : Identity
  pub more : Bool
  pub body_is : IsBody (record { bytes = bytes; meter = meter; more = more })

-- the part's time stamp is in range, and its body is that of some telegram
pub record IsPart (part : PartRow) : Type 0 where
  pub moment_fits : part.moment ≤ last_moment
  pub body_is : IsBodyText part.body

-- at most 255 parts, and all of them valid
pub record AreParts (parts : List PartRow) : Type 0 where
  pub count : length parts ≤ most_parts
  pub each : All IsPart parts

-- the meter's bus line, address, flat and open parts are valid
pub record IsMeter (row : MeterRow) : Type 0 where
  pub line_is : IsBusLine row.line
  pub address_is : IsAddress row.address
  pub flat_is : IsFlat row.flat
  pub parts_are : AreParts row.parts

-- the reading's flat and parts are valid
pub record IsReading (reading : ReadingRow) : Type 0 where
  pub flat_is : IsFlat reading.flat
  pub parts_are : AreParts reading.parts

-- a serial that was given and isn't confirmed
pub record IsOpenSerial (confirmed next serial : ℕ) : Type 0 where
  pub low : confirmed < serial
  pub high : serial < next

-- a state within a budget
pub record IsState (budget : ℕ) (s : State) : Type 0 where
  pub meters_ascend : IsStrictlySortedBy identity_cmp (keys_of s.meters)
  pub meters_are : All IsMeter (values_of s.meters)
  pub readings_ascend : IsStrictlySortedBy nat_cmp (map (λ (r : ReadingRow). r.serial) s.readings)
  pub readings_are : All IsReading s.readings
  pub serials_are : All (λ (r : ReadingRow). IsOpenSerial s.confirmed s.next_serial r.serial)
      s.readings
  pub next_fits : s.next_serial ≤ end_of_numbers
  pub confirmed_fits : s.confirmed < s.next_serial
  pub number_fits : s.last_number < end_of_numbers
  pub line_fits : length s.last_line ≤ longest_line
  pub size_fits : size_of s ≤ budget
