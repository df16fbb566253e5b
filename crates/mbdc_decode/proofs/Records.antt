-- The lines of records, one record more.
use Rattle.std.proofs.Common.{◌≡◌, List, [], ◌∷◌, ◌++◌, refl}
use Rattle.dc_records.specs.Record.{Entry}
use Rattle.mbdc_decode.specs.Telegram.{record_line, record_lines}

pub no_records : record_lines [] ≡ []
unfolding record_lines
no_records = refl

pub first_record : (r : Entry) (others : List Entry) → record_lines (r ∷ others) ≡ record_line r ++ record_lines others
unfolding record_lines
first_record r others = refl

pub ruleset records = (no_records, first_record)
