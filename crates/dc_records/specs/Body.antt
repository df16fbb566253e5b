-- What follows a telegram's header: items, and then an end (EN 13757-3, data records and the special DIFs).
use Rattle.std.specs.Prelude.{◌≡◌, Bool, true, false, ℕ, zero, suc, List, [], ◌∷◌, ◌++◌, length}
use Rattle.std.specs.Prelude.{◌<◌, Result, Ok, Err, ◌==◌, if◌then◌else◌}
use Rattle.std.specs.List.{flat_map, AllByRecursion}
use Rattle.dc_records.specs.declared.fault.BodyFault.{BodyFault}
use Rattle.dc_records.specs.declared.fault.BodyFault.TheVariants.{Cut}
use Rattle.dc_records.specs.Record.{Entry, Spells}
use Rattle.dc_records.specs.Reading.{◌>>=◌, record_at}

-- ---- the end

-- an end without where it lies in memory
pub data Ending : Type 0 where
  plain : Ending
  last : List ℕ → Ending
  more : List ℕ → Ending

-- Nothing; or DIF 0F or 1F, and manufacturer specific data.
abbrev pub IsEnd : List ℕ → Ending → Type 0
IsEnd text plain = text ≡ []
IsEnd text (last rest) = text ≡ 0x0F ∷ rest
IsEnd text (more rest) = text ≡ 0x1F ∷ rest

-- DIF 1F says that more records follow in the next telegram.
abbrev pub continues : Ending → Bool
continues plain = false
continues (last rest) = false
continues (more rest) = true

-- ---- the items

-- the filler, or a text and the record that it spells
pub data Item : Type 0 where
  filler : Item
  spelled : List ℕ → Entry → Item

-- the text of a record spells it; a filler has nothing to satisfy
abbrev pub IsItem : Item → Type 0
IsItem filler = Unit {0}
IsItem (spelled text e) = Spells text e

-- the filler is DIF 2F alone
abbrev pub text_of : Item → List ℕ
text_of filler = 0x2F ∷ []
text_of (spelled text e) = text

-- the items without the fillers
abbrev pub records_of : List Item → List Entry
records_of [] = []
records_of (filler ∷ items) = records_of items
records_of (spelled text e ∷ items) = e ∷ records_of items

-- The text is items, one after the other, and then an end; these are its records.
pub record IsContent (text : List ℕ) (records : List Entry) (end : Ending) : Type 0 where
  pub items : List Item
  pub tail : List ℕ
  pub parts : text ≡ flat_map text_of items ++ tail
  pub each : AllByRecursion IsItem items
  pub ends : IsEnd tail end
  pub records_are : records ≡ records_of items

-- ---- reading

-- what stands at the front: an end, a filler and the bytes after it, or a record and the bytes after it
pub data Front : Type 0 where
  ends : Ending → Front
  skips : List ℕ → Front
  gives : Entry → List ℕ → Front

-- the end, the filler or the record that the bytes begin with, or the fault of that record
unfoldable pub front_at : List ℕ → Result Front BodyFault
front_at [] = Ok (ends plain)
front_at (b ∷ rest) =
    if b == 0x0F then Ok (ends (last rest)) else if b == 0x1F then Ok (ends (more rest))
    else if b == 0x2F then Ok (skips rest)
    else (record_at (b ∷ rest) >>= λ x. Ok (gives x.0 x.1))

-- a record before those that were read
abbrev pub with_record : Entry → Result (List Entry × Ending) BodyFault
    → Result (List Entry × Ending) BodyFault
with_record e (Ok x) = Ok (e ∷ x.0, x.1)
with_record e (Err f) = Err f

-- what is read by what stands at the front, where `others` reads the rest
abbrev pub after : (List ℕ → Result (List Entry × Ending) BodyFault) → Result Front BodyFault
    → Result (List Entry × Ending) BodyFault
after others (Err f) = Err f
after others (Ok (ends end)) = Ok ([], end)
after others (Ok (skips rest)) = others rest
after others (Ok (gives e rest)) = with_record e (others rest)

-- Each turn takes a byte, so one turn more than there are bytes is enough.
abbrev pub turns : ℕ → List ℕ → Result (List Entry × Ending) BodyFault
turns zero bytes = Err Cut
turns (suc n) bytes = after (turns n) (front_at bytes)

-- the data records and the end that the bytes hold, or the first fault
unfoldable pub content_at : List ℕ → Result (List Entry × Ending) BodyFault
content_at bytes = turns (suc (length bytes)) bytes

-- what is read of the bytes, by what stands at their front
abbrev pub Reads : List ℕ → Front → Type 0
Reads bytes (ends end) = content_at bytes ≡ Ok ([], end)
Reads bytes (skips rest) = (content_at bytes ≡ content_at rest) × (length rest < length bytes)
Reads bytes (gives e rest) = (content_at bytes ≡ with_record e (content_at rest))
    × (length rest < length bytes)

-- the end alone, and the records alone, of what was read
abbrev pub end_in : Result (List Entry × Ending) BodyFault → Result Ending BodyFault
end_in (Ok x) = Ok x.1
end_in (Err f) = Err f

abbrev pub records_in : Result (List Entry × Ending) BodyFault → List Entry
records_in (Ok x) = x.0
records_in (Err f) = []
