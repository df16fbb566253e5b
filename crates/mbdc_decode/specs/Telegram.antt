-- The text of a telegram, one line each for its meter, each of its records, and its end (this product; the
-- fields are those of EN 13757-3, variable data structure).
use Rattle.std.specs.Prelude.{ℕ, List, ◌++◌, codes, length, flat_map}
use Rattle.dc_address.specs.Text.{text_of}
use Rattle.dc_records.specs.declared.header.Header.{Header}
use Rattle.dc_records.specs.Record.{Entry}
use Rattle.dc_records.specs.Body.{Ending, plain, last, more}
use Rattle.dc_records.specs.Telegram.{Parsed}
use Rattle.mbdc_decode.specs.Seen.{seen_word}
use Rattle.mbdc_io.specs.Words.{number_word, hex_word}

-- the meter's identity, the access number and the status byte
unfoldable pub meter_line : Header → List ℕ
meter_line h = codes "METER " ++ (text_of h.identity
    ++ (number_word h.access ++ (number_word h.status ++ codes "\n")))

-- the numbers of a record: its storage, tariff, subunit and function
unfoldable pub record_words : Entry → List ℕ
record_words r = number_word r.storage ++ number_word r.tariff ++ number_word r.subunit
    ++ number_word r.function

-- with its VIB, its data and their decoded value
unfoldable pub record_line : Entry → List ℕ
record_line r = codes "RECORD" ++ (record_words r
    ++ (hex_word r.vib ++ (hex_word r.content ++ (seen_word r ++ codes "\n"))))

-- the end of a body, and the number of bytes of the manufacturer's data
abbrev pub end_line : Ending → List ℕ
end_line plain = codes "END\n"
end_line (last rest) = codes "LAST" ++ number_word (length rest) ++ codes "\n"
end_line (more rest) = codes "MORE" ++ number_word (length rest) ++ codes "\n"

-- one line for each record
unfoldable pub record_lines : List Entry → List ℕ
record_lines records = flat_map record_line records

unfoldable pub telegram_text : Parsed → List ℕ
telegram_text t = meter_line t.header ++ record_lines t.records ++ end_line t.ending
