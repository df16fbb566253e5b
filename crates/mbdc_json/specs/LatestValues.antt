-- What the meters of a house stand at (this product): the reading that is shown of a meter, and its lines.
use Rattle.std.specs.Prelude.{ℕ, ◌-◌, ◌/◌, ◌%◌, ◌==◌, ◌&&◌, Bool, false, true, List, [], ◌∷◌, ◌++◌, length, codes}
use Rattle.std.specs.Prelude.{slice_get, Option, None, Some, if◌then◌else◌}
use Rattle.std.specs.Prelude.{min, ◌^◌, nat_le, nat_lt, map, decimal}
use Rattle.std.specs.Option.{option_or, option_and_then}
use Rattle.std.specs.List.{flat_map}
use Rattle.mbdc_io.specs.Words.{number_word, byte_word}
use Rattle.dc_address.specs.declared.identity.Identity.{Identity}
use Rattle.dc_units.specs.Text.{value_text}
use Rattle.dc_records.specs.Fields.{application_name}
use Rattle.mbdc_change.specs.State.{State, ReadingRow, PartRow}
use Rattle.dc_meters.specs.Orders.{reading_of, serials_of}
use Rattle.dc_records.specs.Record.{Entry}
use Rattle.mbdc_reading.specs.Codes.{code_at, number_of}
use Rattle.mbdc_reading.specs.Headline.{headline}
use Rattle.mbdc_reading.specs.Names.{names_of}
use Rattle.mbdc_reading.specs.Parts.{told_of}
use Rattle.mbdc_reading.specs.Reading.{reading_of as read_of}
use Rattle.mbdc_reading.specs.declared.reading.Reading.{Reading}
use Rattle.mbdc_reading.specs.Sent.{Sent}
use Rattle.mbdc_reading.specs.Text.{unit_text, value_text_of}
use Rattle.mbdc_shown.specs.Stand.{bodies_sent, listed}
use Rattle.mbdc_shown.specs.declared.stand.Current.TheVariants.{Also, Unread, Values}
use Rattle.mbdc_shown.specs.Utc.{minute_of}
use Rattle.mbdc_json.specs.declared.latest.reading.Shown.{Shown}

-- ---- which reading

-- the last of some serials
abbrev pub last_of : List ℕ → Option ℕ
last_of [] = None
last_of (serial ∷ serials) = option_or (last_of serials) (Some serial)

-- the last reading of a meter that the register holds: its readings ascend by serial
abbrev pub last_reading : Identity → State → Option ReadingRow
last_reading meter s =
    option_and_then (λ serial. reading_of serial s.readings) (last_of (serials_of meter s.readings))

-- the last telegram of a reading
abbrev pub last_part : ReadingRow → Option PartRow
last_part r = slice_get r.parts (length r.parts - 1)

-- ---- the lines of records

-- A value and a unit are a word each: their other characters than 21 to 7E are points, and what isn't there is a dash.
abbrev pub shown : ℕ → ℕ
shown byte = if nat_le 0x21 byte && nat_lt byte 0x7F then byte else 46

abbrev pub shown_word : List ℕ → List ℕ
shown_word text = if length text == 0 then codes "-" else map shown text

abbrev pub value_word : Option (List ℕ) → List ℕ
value_word None = codes "-"
value_word (Some text) = shown_word text

-- after a word the tariff, the subunit, the value and the unit
abbrev pub reading_as : List ℕ → Entry → Reading → List ℕ
reading_as word e r = word ++ (number_word e.tariff ++ (number_word e.subunit
    ++ (codes " " ++ (value_word (value_text_of r e.content) ++ (codes " " ++ shown_word (unit_text r e.vib))))))

unfoldable pub sent_words : List ℕ → Sent → List ℕ
sent_words word s = reading_as word s.entry (read_of s.entry s.len)

unfoldable pub sent_line : List ℕ → Sent → List ℕ
sent_line word s = sent_words word s ++ codes "\n"

unfoldable pub sent_lines : List ℕ → List Sent → List ℕ
sent_lines word ss = flat_map (sent_line word) ss

-- the names of VIFEs; `after_fc` says that an FC stands before the first
abbrev pub name_words : List ℕ → List ℕ
name_words name = codes ", " ++ name

abbrev pub names_words : Bool → List ℕ → List ℕ
names_words after_fc vifes = flat_map name_words (names_of after_fc vifes)

-- also what the record is of
unfoldable pub also_line : Sent → List ℕ
also_line s = sent_words (codes "ALSO") s ++ (codes " " ++ ((code_at (number_of s.entry.vib)).name
    ++ (names_words false (told_of s.entry.vib) ++ codes "\n")))

unfoldable pub also_lines : List Sent → List ℕ
also_lines ss = flat_map also_line ss

-- how many records aren't read; more than a number of 64 bits can't be counted
abbrev pub counted : List Sent → ℕ
counted ss = min (length ss) (2 ^ 64 - 1)

unfoldable pub unread_line : ℕ → List ℕ
unread_line n =
    if n == 0 then []
    else if n == 1 then codes "1 record not read\n"
    else decimal n ++ codes " records not read\n"

-- what a bit of the status byte says, where it is set
unfoldable pub bit_words : ℕ → List ℕ → List ℕ
bit_words bit words = if bit % 2 == 1 then words else []

unfoldable pub bits_words : ℕ → List ℕ
bits_words status = bit_words (status / 4) (codes ", power low")
    ++ (bit_words (status / 8) (codes ", permanent error")
    ++ bit_words (status / 16) (codes ", temporary error"))

-- what the status byte says (EN 13757-3, long data header)
unfoldable pub byte_words : ℕ → List ℕ
byte_words status = codes " " ++ (application_name status ++ bits_words status)

-- the same after the byte in hex
unfoldable pub status_line : ℕ → List ℕ
status_line status = codes "STATUS" ++ (byte_word status ++ (byte_words status ++ codes "\n"))

abbrev pub end_words : Bool → List ℕ
end_words true = codes "Z JOURNAL\n"
end_words false = codes "Z\n"

-- the serial of a reading, the minute (UTC) of its last telegram and whether it is the journal's, the meter's status, and
-- what the records of a meter of this device type tell
unfoldable pub shown_lines : ℕ → Shown → List ℕ
shown_lines kind r = number_word r.serial ++ (codes " " ++ (value_text (minute_of r.moment) ++ (end_words r.is_noted
    ++ (status_line r.status ++ (sent_lines (codes "HEADLINE") (headline kind (bodies_sent r.bodies))
    ++ (sent_lines (codes "VALUE") (listed Values (bodies_sent r.bodies)) ++ (also_lines (listed Also (bodies_sent r.bodies))
    ++ unread_line (counted (listed Unread (bodies_sent r.bodies))))))))))

-- what follows the meter: the reading that is shown, if one is
abbrev pub shown_words : ℕ → Option Shown → List ℕ
shown_words kind None = codes " NONE\n"
shown_words kind (Some r) = shown_lines kind r
