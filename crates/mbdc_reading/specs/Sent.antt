-- The records of a body with the length bytes of their data (EN 13757-3, variable length data).
use Rattle.std.specs.Prelude.{◌≡◌, ℕ, zero, suc, ◌-◌, ◌<◌, ◌==◌, if◌then◌else◌, List, [], ◌∷◌, length, get_or, map, Result, Ok, Err}
use Rattle.dc_records.specs.declared.fault.BodyFault.{BodyFault}
use Rattle.dc_records.specs.declared.fault.BodyFault.TheVariants.{Cut}
use Rattle.dc_records.specs.Record.{Entry, view}
use Rattle.dc_records.specs.Body.{Ending, Front, ends, skips, gives}
use Rattle.mbdc_reading.specs.Front.{wide_front_at}
use Rattle.mbdc_reading.specs.declared.sent.Sent as written

-- a record and the length byte of data field D, which is 0 for other fields
pub record Sent : Type 0 where
  pub entry : Entry
  pub len : ℕ

abbrev pub sent_view : written.Sent → Sent
sent_view s = record { entry = view s.«record»; len = s.len }

-- the length byte stands right before the data
abbrev pub length_byte : List ℕ → Entry → List ℕ → ℕ
length_byte bytes e rest = if e.field == 0xD then get_or bytes (length bytes - length rest - length e.content - 1) 0 else 0

abbrev pub sent_of : List ℕ → Entry → List ℕ → Sent
sent_of bytes e rest = record { entry = e; len = length_byte bytes e rest }

-- the records, and how they end
abbrev pub Read : Type 0
Read = List Sent × Result Ending BodyFault

abbrev pub with_sent : Sent → Read → Read
with_sent s read = (s ∷ read.0, read.1)

-- what is read by what stands at the front, where `others` reads the rest
abbrev pub sent_turn : (List ℕ → Read) → List ℕ → Result Front BodyFault → Read
sent_turn others bytes (Err f) = ([], Err f)
sent_turn others bytes (Ok (ends end)) = ([], Ok end)
sent_turn others bytes (Ok (skips rest)) = others rest
sent_turn others bytes (Ok (gives e rest)) = with_sent (sent_of bytes e rest) (others rest)

-- Each turn takes a byte, so one turn more than there are bytes is enough.
abbrev pub sent_turns : ℕ → List ℕ → Read
sent_turns zero bytes = ([], Err Cut)
sent_turns (suc n) bytes = sent_turn (sent_turns n) bytes (wide_front_at bytes)

unfoldable pub read_at : List ℕ → Read
read_at bytes = sent_turns (suc (length bytes)) bytes

-- the records up to the end or the first fault
abbrev pub sent_at : List ℕ → List Sent
sent_at bytes = (read_at bytes).0

-- the end, or the first fault
abbrev pub end_at : List ℕ → Result Ending BodyFault
end_at bytes = (read_at bytes).1

abbrev pub entries_of : List Sent → List Entry
entries_of sents = map (λ s. s.entry) sents

-- ---- for private clauses

-- what is read, by what stands at the front
abbrev pub SentBy : List ℕ → Front → Type 0
SentBy bytes (ends end) = read_at bytes ≡ ([], Ok end)
SentBy bytes (skips rest) = (read_at bytes ≡ read_at rest) × (length rest < length bytes)
SentBy bytes (gives e rest) = (read_at bytes ≡ with_sent (sent_of bytes e rest) (read_at rest)) × (length rest < length bytes)
