-- Reading from left to right, with the first fault that is met.
use Rattle.std.specs.Prelude.{◌≡◌, ℕ, ◌+◌, ◌-◌, ◌*◌, ◌/◌, ◌%◌, List, [], ◌∷◌, length, take, drop}
use Rattle.std.specs.Prelude.{map, Result, Ok, Err, nat_lt, ◌==◌, if◌then◌else◌}
use Rattle.dc_records.specs.declared.fault.BodyFault.{BodyFault}
use Rattle.dc_records.specs.declared.fault.BodyFault.TheVariants.{ReservedDif, TooManyDife}
use Rattle.dc_records.specs.declared.fault.BodyFault.TheVariants.{TooManyVife, BadLength}
use Rattle.dc_records.specs.declared.fault.BodyFault.TheVariants.{PlainTextExtension, Cut}
use Rattle.dc_records.specs.Record.{Entry, number, storage_digit, tariff_digit, subunit_digit}
use Rattle.dc_records.specs.Record.{width}

infixl 10 ◌>>=◌
abbrev pub ◌>>=◌ : {A B : Type 0} → Result A BodyFault → (A → Result B BodyFault)
    → Result B BodyFault
(Ok x) >>= f = f x
(Err e) >>= f = Err e

-- What a function returned, seen by view, is what reading gives.
abbrev pub Gives : {X Y : Type 0} → (X → Y) → Result X BodyFault → Result Y BodyFault → Type 0
Gives view (Ok x) read = read ≡ Ok (view x)
Gives view (Err f) read = read ≡ Err f

-- how many bytes come by bit 7, of at most room
abbrev pub chain_len : BodyFault → ℕ → ℕ → List ℕ → Result ℕ BodyFault
chain_len many room last [] = if nat_lt last 128 then Ok 0 else if room == 0 then Err many
    else Err Cut
chain_len many room last (next ∷ rest) =
    if nat_lt last 128 then Ok 0 else if room == 0 then Err many
    else (chain_len many (room - 1) next rest >>= λ n. Ok (n + 1))

-- the first n bytes, and the rest
abbrev pub split_at : ℕ → List ℕ → Result (List ℕ × List ℕ) BodyFault
split_at n bytes = if nat_lt (length bytes) n then Err Cut else Ok (take n bytes, drop n bytes)

-- a length byte, then that many bytes
abbrev pub counted_at : List ℕ → Result (List ℕ × List ℕ) BodyFault
counted_at [] = Err Cut
counted_at (byte ∷ rest) = if nat_lt byte 0xC0 then split_at byte rest
    else if nat_lt byte 0xF0 then split_at (byte % 16) rest else Err BadLength

-- number of bytes of the VIB at the front: VIF and VIFEs, or 7C, a length byte and its characters
abbrev pub vib_len : List ℕ → Result ℕ BodyFault
vib_len [] = Err Cut
vib_len (vif ∷ rest) =
    if vif == 0xFC then Err PlainTextExtension
    else if vif == 0x7C then (counted_at rest >>= λ x. Ok (2 + length x.0))
    else (chain_len TooManyVife 10 vif rest >>= λ n. Ok (n + 1))

-- the data of a record and the bytes after it, by the data field of its DIF
abbrev pub data_at : ℕ → List ℕ → Result (List ℕ × List ℕ) BodyFault
data_at field bytes = if field == 0xD then counted_at bytes else split_at (width field) bytes

-- the data record of a DIF, its DIFEs, its VIB and its data
abbrev pub entry_of : ℕ → List ℕ → List ℕ → List ℕ → Entry
entry_of dif difes vib content = record {
  storage = dif / 64 % 2 + 2 * number 16 (map storage_digit difes);
  tariff = number 4 (map tariff_digit difes);
  subunit = number 2 (map subunit_digit difes);
  function = dif / 16 % 4;
  field = dif % 16;
  vib = vib;
  content = content;
}

-- the data record that the bytes begin with and the bytes after it, or the first fault
unfoldable pub record_at : List ℕ → Result (Entry × List ℕ) BodyFault
record_at [] = Err Cut
record_at (dif ∷ bytes) =
    if dif % 16 == 15 then Err ReservedDif else do
      difes ← chain_len TooManyDife 10 dif bytes
      vib ← vib_len (drop difes bytes)
      content ← data_at (dif % 16) (drop vib (drop difes bytes))
      Ok (entry_of dif (take difes bytes) (take vib (drop difes bytes)) content.0, content.1)
