-- The readings shown to the billing office (this product).
use Rattle.std.specs.Prelude.{ℕ, ◌+◌, List, [], ◌∷◌, ◌++◌, codes, length, take}
use Rattle.dc_address.specs.Text.{text_of}
use Rattle.mbdc_change.specs.State.{State, PartRow, ReadingRow}
use Rattle.dc_meters.specs.Orders.{readings_from}
use Rattle.mbdc_io.specs.Hex.{upper_hex}
use Rattle.mbdc_io.specs.Words.{number_word}

-- `PART i moment hex`: the part's place, its time stamp in seconds since 1970, and its body
unfoldable pub part_line : ℕ → PartRow → List ℕ
part_line place part =
    codes "PART" ++ number_word place ++ number_word part.moment ++ codes " " ++ upper_hex part.body
    ++ codes "\n"

-- parts from a place on
abbrev pub part_lines : ℕ → List PartRow → List ℕ
part_lines place [] = []
part_lines place (part ∷ parts) = part_line place part ++ part_lines (place + 1) parts

-- ` ident flat parts`: the reading's meter and flat, and the number of its parts
unfoldable pub owner_words : ReadingRow → List ℕ
owner_words reading = codes " " ++ text_of reading.meter ++ codes " " ++ reading.flat
    ++ number_word (length reading.parts)

-- `READING serial ident flat parts`
unfoldable pub reading_line : ReadingRow → List ℕ
reading_line reading = codes "READING" ++ number_word reading.serial ++ owner_words reading
    ++ codes "\n"

-- that line, and its parts from 1 on
unfoldable pub reading_lines : ReadingRow → List ℕ
reading_lines reading = reading_line reading ++ part_lines 1 reading.parts

-- the readings from a serial on, at most this many
abbrev pub window : ℕ → ℕ → State → List ReadingRow
window from count s = take count (readings_from from s.readings)
