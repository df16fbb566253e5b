-- The meters as shown to the billing office (this product).
use Rattle.std.specs.Prelude.{ℕ, List, ◌++◌, codes, length, flat_map}
use Rattle.dc_address.specs.Text.{text_of}
use Rattle.dc_address.specs.declared.identity.Identity.{Identity}
use Rattle.mbdc_change.specs.Fields.{address_word}
use Rattle.mbdc_change.specs.State.{State, MeterRow}
use Rattle.mbdc_io.specs.Words.{number_word}

-- the meter, its bus line and its address
unfoldable pub place_words : Identity → MeterRow → List ℕ
place_words meter row = codes " " ++ text_of meter ++ number_word row.line ++ codes " "
    ++ address_word row.address

-- `METER ident line addr flat open`; `open` is the number of parts of an unfinished readout
unfoldable pub meter_line : Identity × MeterRow → List ℕ
meter_line (meter, row) =
    codes "METER" ++ place_words meter row ++ codes " " ++ row.flat
    ++ number_word (length row.parts) ++ codes "\n"

-- the meters by identity
abbrev pub meter_lines : State → List ℕ
meter_lines s = flat_map meter_line s.meters
