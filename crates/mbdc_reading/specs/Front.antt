-- What stands at the front of a body's rest, a record with a unit in plain text and VIFEs too (EN 13757-3, VIF FC). Meters send
-- the length byte and the text before the VIFEs.
use Rattle.std.specs.Prelude.{ℕ, ◌+◌, ◌%◌, ◌&&◌, ◌||◌, Bool, nat_le, if◌then◌else◌, List, [], ◌∷◌, length, take, drop, Result, Ok, Err}
use Rattle.std.specs.List.{list_all}
use Rattle.dc_records.specs.declared.fault.BodyFault.{BodyFault}
use Rattle.dc_records.specs.declared.fault.BodyFault.TheVariants.{TooManyDife, TooManyVife, PlainTextExtension, Cut}
use Rattle.dc_records.specs.Record.{Entry}
use Rattle.dc_records.specs.Reading.{◌>>=◌, chain_len, counted_at, data_at, entry_of}
use Rattle.dc_records.specs.Body.{Front, gives, front_at}

-- a character of ISO 8859-1 that isn't a control character
abbrev pub is_printed : ℕ → Bool
is_printed c = (nat_le 0x20 c && nat_le c 0x7E) || nat_le 0xA0 c

-- how many VIFEs follow a text, with the text and its length byte
abbrev pub after_text : List ℕ → List ℕ → Result ℕ BodyFault
after_text text others =
    if list_all is_printed text then (chain_len TooManyVife 10 0xFC others >>= λ n. Ok (2 + length text + n))
    else Err PlainTextExtension

-- how many bytes a VIB has whose VIF is FC: the VIF, a length byte, a text, and at most ten VIFEs
abbrev pub text_vib_len : List ℕ → Result ℕ BodyFault
text_vib_len [] = Err Cut
text_vib_len (vif ∷ rest) = counted_at rest >>= λ x. after_text x.0 x.1

-- a record whose VIF is FC, and the rest
unfoldable pub text_record_at : List ℕ → Result (Entry × List ℕ) BodyFault
text_record_at [] = Err Cut
text_record_at (dif ∷ bytes) = do
  difes ← chain_len TooManyDife 10 dif bytes
  vib ← text_vib_len (drop difes bytes)
  content ← data_at (dif % 16) (drop vib (drop difes bytes))
  Ok (entry_of dif (take difes bytes) (take vib (drop difes bytes)) content.0, content.1)

abbrev pub or_text : List ℕ → Result Front BodyFault → Result Front BodyFault
or_text bytes (Err PlainTextExtension) = text_record_at bytes >>= λ x. Ok (gives x.0 x.1)
or_text bytes r = r

-- what a telegram has there; or a record whose VIF is FC
unfoldable pub wide_front_at : List ℕ → Result Front BodyFault
wide_front_at bytes = or_text bytes (front_at bytes)
