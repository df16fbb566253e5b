-- The records of a body from a place on (this product; the structures are those of EN 13757-3).
use Rattle.std.specs.Prelude.{◌≡◌, ℕ, ◌+◌, ◌<◌, ◌≤◌, ◌%◌, ◌==◌, Bool, not, nat_lt, if◌then◌else◌}
use Rattle.std.specs.Prelude.{List, [], ◌∷◌, length, take, drop, map, Option, Some, None, Result, Ok, Err, slice_index}
use Rattle.std.specs.List.{position_or_len}
use Rattle.dc_records.specs.declared.fault.BodyFault.{BodyFault}
use Rattle.dc_records.specs.declared.fault.BodyFault.TheVariants.{Short, BadIdentity}
use Rattle.dc_records.specs.Body.{Ending, plain, last, more}
use Rattle.dc_records.specs.Fault as fault
use Rattle.dc_records.specs.Record.{Entry}
use Rattle.mbdc_reading.specs.declared.reading.Reading.{Reading}
use Rattle.mbdc_reading.specs.Codes.{number_of}
use Rattle.mbdc_reading.specs.Content.{Content, Variable, variable, fixed, content_of, end_in, sents_in, sents_of}
use Rattle.mbdc_reading.specs.Counter.{Counter, second_code}
use Rattle.mbdc_reading.specs.Fixed.{Fixed, has_number, shows_counters}
use Rattle.mbdc_reading.specs.Reading.{reading_of}
use Rattle.mbdc_reading.specs.Sent.{Sent}
use Rattle.mbdc_library.specs.declared.plain.PlainRecord.{PlainRecord}
use Rattle.mbdc_library.specs.Header.{first_of}
use Rattle.mbdc_library.specs.Plain.{places_of, plain_record}

-- ---- items

-- a record or a counter, and what is read of it, by the code of its quantity
pub record Item : Type 0 where
  pub entry : Entry
  pub len : ℕ
  pub quantity : ℕ
  pub reading : Reading

abbrev pub item_of : Sent → Item
item_of s = record { entry = s.entry; len = s.len; quantity = number_of s.entry.vib; reading = reading_of s.entry s.len }

-- the codes of fixed data come after those of variable data
abbrev pub counter_item : ℕ → Counter → Item
counter_item code c = record { entry = c.entry; len = 0; quantity = 0x10000 + code; reading = c.reading }

-- the unit bytes of fixed data
abbrev pub first_item : Fixed → List ℕ → Item
first_item f body = counter_item (slice_index body 6 % 64) f.first

abbrev pub second_item : Fixed → List ℕ → Item
second_item f body = counter_item (second_code (slice_index body 6) (slice_index body 7)) f.second

-- ---- what is left from a place on

-- the first counter ends at 12, the second at 16
abbrev pub counters_from : ℕ → Fixed → List ℕ → List Item
counters_from at f body =
    if nat_lt at 12 then first_item f body ∷ second_item f body ∷ []
    else if nat_lt at 16 then second_item f body ∷ []
    else []

abbrev pub counters_left : Fixed → List ℕ → ℕ → List Item
counters_left f body at = if shows_counters f then counters_from at f body else []

abbrev pub sents_left : Variable → List ℕ → ℕ → List Sent
sents_left v body at = sents_in (drop at body) v.refused

abbrev pub content_left : Option Content → List ℕ → ℕ → List Item
content_left None body at = []
content_left (Some (variable v)) body at = map item_of (sents_left v body at)
content_left (Some (fixed None)) body at = []
content_left (Some (fixed (Some f))) body at = counters_left f body at

-- the records of a body after this CI byte from a place on
abbrev pub left : ℕ → List ℕ → ℕ → List Item
left ci body at = content_left (content_of ci body) body at

-- ---- how it ends

abbrev pub fault_result : BodyFault → ℕ
fault_result f = 16 + fault.number_of f

abbrev pub end_result : Result Ending BodyFault → ℕ
end_result (Ok plain) = 1
end_result (Ok (last rest)) = 1
end_result (Ok (more rest)) = 2
end_result (Err f) = fault_result f

abbrev pub end_left : Variable → List ℕ → ℕ → Result Ending BodyFault
end_left v body at = end_in (drop at body) v.refused

abbrev pub counters_result : Fixed → ℕ
counters_result f = if has_number f then 1 else fault_result BadIdentity

abbrev pub content_result : Option Content → List ℕ → ℕ → ℕ
content_result None body at = 3
content_result (Some (variable v)) body at = end_result (end_left v body at)
content_result (Some (fixed None)) body at = fault_result Short
content_result (Some (fixed (Some f))) body at = counters_result f

abbrev pub left_result : ℕ → List ℕ → ℕ → ℕ
left_result ci body at = content_result (content_of ci body) body at

-- ---- what is written of an item

-- its numbers are the item's, and its block and its data stand at its places
abbrev pub Shows : List ℕ → Item → PlainRecord → Type 0
Shows body i p =
    (p ≡ plain_record i.entry i.len i.quantity i.reading p.places)
    × (take p.places.vib_size (drop p.places.vib_at body) ≡ i.entry.vib)
    × (take p.places.data_size (drop p.places.data_at body) ≡ i.entry.content)

-- it is the record that comes next from a place on, and the walk goes on after it
abbrev pub IsNextOf : (ℕ → List Item) → List ℕ → ℕ → PlainRecord → Type 0
IsNextOf items body at p =
    (i : Item) × (items at ≡ i ∷ items p.places.next) × Shows body i p × (p.places.at ≡ at)

abbrev pub IsNextSent : Variable → List ℕ → ℕ → PlainRecord → Type 0
IsNextSent v body at p =
    (s : Sent) × (sents_left v body at ≡ s ∷ sents_left v body p.places.next)
    × Shows body (item_of s) p × (p.places ≡ places_of at p.places.vib_at s.entry)

abbrev pub IsNextCounter : Fixed → List ℕ → ℕ → PlainRecord → Type 0
IsNextCounter f body at p = IsNextOf (counters_left f body) body at p

abbrev pub IsNext : ℕ → List ℕ → ℕ → PlainRecord → Type 0
IsNext ci body at p = IsNextOf (left ci body) body at p

-- ---- the block of a record

-- fillers (DIF 2F) stand before a record
abbrev pub is_item : ℕ → Bool
is_item byte = not (byte == 0x2F)

abbrev pub fillers : List ℕ → ℕ
fillers bytes = position_or_len is_item bytes

-- bit 7 of the DIF and of each DIFE announces another
abbrev pub is_last : ℕ → Bool
is_last byte = nat_lt byte 0x80

abbrev pub dif_len : List ℕ → ℕ
dif_len bytes = position_or_len is_last bytes + 1

abbrev pub vib_place : List ℕ → ℕ
vib_place bytes = fillers bytes + dif_len (drop (fillers bytes) bytes)

-- ---- the theorem

-- the records of a body
abbrev pub items_of : Content → List ℕ → List Item
items_of (variable v) body = map item_of (sents_of v)
items_of (fixed None) body = []
items_of (fixed (Some f)) body =
    if shows_counters f then first_item f body ∷ second_item f body ∷ [] else []

-- where the first one begins
abbrev pub first_place : Content → ℕ
first_place (variable v) = first_of v.structure
first_place (fixed None) = 0
first_place (fixed (Some f)) = 8
