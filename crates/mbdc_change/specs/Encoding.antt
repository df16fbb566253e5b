-- The encoding of changes and states (this product), from the pieces of `Pieces`.
use Rattle.std.specs.Prelude.{ℕ, List, length, ◌++◌}
use Rattle.std.specs.List.{flat_map}
use Rattle.dc_address.specs.declared.identity.Identity.{Identity}
use Rattle.dc_address.specs.Identity.{wire_of}
use Rattle.mbdc_change.specs.declared.change.Change.{Change}
use Rattle.mbdc_change.specs.declared.change.Change.TheVariants.{Telegram, Command as Numbered}
use Rattle.mbdc_change.specs.State.{State, MeterRow, PartRow, ReadingRow}
use Rattle.mbdc_change.specs.Pieces.{address_byte, byte, count_bytes, counted, long_bytes}
use Rattle.mbdc_change.specs.Command.{command_bytes}

-- a part of a readout: its time stamp, and its telegram's body after a length byte
unfoldable pub part_bytes : PartRow → List ℕ
part_bytes part = long_bytes part.moment ++ counted part.body

-- the number of parts in one byte, then the parts
unfoldable pub parts_bytes : List PartRow → List ℕ
parts_bytes parts = byte (length parts) ++ flat_map part_bytes parts

-- ---- a change: a tag, and its fields

-- a telegram: the tag 1, its part number, its time stamp and its body
abbrev pub telegram_bytes : ℕ → ℕ → List ℕ → List ℕ
telegram_bytes part moment body =
    (byte 1 ++ byte part) ++ part_bytes (record { moment = moment; body = body })

-- the length of the longest change in bytes: a telegram with the longest body
abbrev pub longest_change : ℕ
longest_change = 263

-- the encoding of a change
abbrev pub change_bytes : Change → List ℕ
change_bytes (Telegram part moment body) = telegram_bytes part moment body.bytes
change_bytes (Numbered number command) = command_bytes number command

-- the encodings of the changes, in order
abbrev pub changes_bytes : List Change → List ℕ
changes_bytes changes = flat_map change_bytes changes

-- ---- a state

-- a meter: its identity, its bus line, its address, its flat and its open parts
unfoldable pub meter_bytes : Identity × MeterRow → List ℕ
meter_bytes e = (((wire_of e.0 ++ byte e.1.line) ++ byte (address_byte e.1.address))
    ++ counted e.1.flat) ++ parts_bytes e.1.parts

-- a reading: its serial, its meter, the flat and the parts
unfoldable pub reading_bytes : ReadingRow → List ℕ
reading_bytes r = ((long_bytes r.serial ++ wire_of r.meter) ++ counted r.flat)
    ++ parts_bytes r.parts

-- the next serial, the confirmed serial, the number and the line of the last command
abbrev pub head_bytes : State → List ℕ
head_bytes s = ((long_bytes s.next_serial ++ long_bytes s.confirmed) ++ long_bytes s.last_number)
    ++ counted s.last_line

-- the number of meters in four bytes, then the meters
abbrev pub meters_bytes : List (Identity × MeterRow) → List ℕ
meters_bytes meters = count_bytes (length meters) ++ flat_map meter_bytes meters

-- the number of readings in four bytes, then the readings
abbrev pub readings_bytes : List ReadingRow → List ℕ
readings_bytes readings = count_bytes (length readings) ++ flat_map reading_bytes readings

-- the encoding of a state: the head, the meters, the readings
abbrev pub state_bytes : State → List ℕ
state_bytes s = (head_bytes s ++ meters_bytes s.meters) ++ readings_bytes s.readings
