-- What a line says (this product): a word and its fields, by the row of the word in the table that the reader has.
use Rattle.std.specs.Prelude.{◌≡◌, ◌≤◌, ◌<◌, ◌⊎◌, ⊤, ℕ, ◌+◌, ◌^◌, ◌==◌, ◌&&◌, ◌||◌, Bool, true, false, nat_lt, nat_le, if◌then◌else◌}
use Rattle.std.specs.Prelude.{List, [], ◌∷◌, ◌++◌, length, map, codes, Option, None, Some, IsSome, IsTrue, All, Any, position, slice_get}
use Rattle.std.specs.List.{list_all, list_any}
use Rattle.std.specs.Str.{bytes_eq}
use Rattle.mbdc_io.specs.Hex.{upper_hex}
use Rattle.dc_address.specs.declared.identity.Identity.{Identity}
use Rattle.dc_address.specs.Text.{text_of}
use Rattle.dc_units.specs.Date.{Day, exists}
use Rattle.dc_units.specs.Text.{day_text}
use Rattle.mbdc_audit.specs.declared.field.Kind.{Kind}
use Rattle.mbdc_audit.specs.declared.field.Kind.TheVariants as kind
use Rattle.mbdc_audit.specs.declared.line.TheConstants.{ROWS}
use Rattle.mbdc_audit.specs.declared.line.Line.{Line}
use Rattle.mbdc_audit.specs.declared.line.Word.{Word}
use Rattle.mbdc_audit.specs.declared.line.Word.TheVariants as word
use Rattle.mbdc_audit.specs.declared.smallest.Spelled.{Spelled}
use Rattle.mbdc_audit.specs.Field.{fields_of}
use Rattle.mbdc_audit.specs.Moment.{minutes_in, number_of_day}
use Rattle.mbdc_audit.specs.Smallest.{decimal_in, is_digit, ratio_in, whole_in}
use Rattle.mbdc_audit.specs.Uses.{counted_named}

-- ---- fields

abbrev pub is_between : ℕ → ℕ → ℕ → Bool
is_between low high byte = nat_le low byte && nat_le byte high

abbrev pub is_lower : ℕ → Bool
is_lower byte = is_between 97 122 byte

-- the bytes of a use's word, of a flat's name, of a reason; of others capital hex digits
unfoldable pub may_have : Kind → ℕ → Bool
may_have kind.Use byte = is_digit byte || (is_lower byte || ((byte == 32) || (byte == 45)))
may_have kind.Flat byte = is_digit byte || (is_lower byte || (is_between 65 90 byte || (is_between 45 47 byte || (byte == 95))))
may_have kind.Why byte = is_between 32 126 byte
may_have _ byte = is_digit byte || is_between 65 70 byte

-- at least one of them, and at most so many
abbrev pub is_of : Kind → ℕ → List ℕ → Bool
is_of k most field = nat_lt 0 (length field) && (nat_le (length field) most && list_all (λ b. may_have k b) field)

abbrev pub spelled : ℕ → Option Spelled
spelled n = Some (record { digits = n; decimals = 0 })

-- a number that was read is what is said
abbrev pub Says : Option ℕ → Option Spelled → Type 0
Says None said = ⊥
Says (Some n) said = said ≡ spelled n

abbrev pub SaysAbove0 : Option ℕ → Option Spelled → Type 0
SaysAbove0 None said = ⊥
SaysAbove0 (Some n) said = (0 < n) × (said ≡ spelled n)

abbrev pub SaysDecimal : Option Spelled → Option Spelled → Type 0
SaysDecimal None said = ⊥
SaysDecimal (Some s) said = said ≡ Some s

-- a hyphen, or else
abbrev pub OrDash : List ℕ → Option Spelled → Type 0 → Type 0
OrDash field said otherwise = ((field ≡ codes "-") × (said ≡ None)) ⊎ otherwise

abbrev pub IsDecimalText : List ℕ → Type 0
IsDecimalText field = IsSome (decimal_in 3 field)

-- a hyphen, or a question mark with zeros for the decimals
abbrev pub is_mark : List ℕ → Bool
is_mark field = bytes_eq field (codes "-") || (bytes_eq field (codes "?") || (bytes_eq field (codes "?.0")
    || (bytes_eq field (codes "?.00") || bytes_eq field (codes "?.000"))))

-- such a mark, or a decimal of at most three decimals, with or without a sign
abbrev pub IsNumberText : List ℕ → Type 0
IsNumberText field = IsTrue (is_mark field) ⊎ (IsDecimalText field ⊎ ((text : List ℕ) × (field ≡ 45 ∷ text) × IsDecimalText text))

-- bytes in capital hex digits
abbrev pub IsBody : List ℕ → Type 0
IsBody field = (bytes : List ℕ) × (0 < length bytes) × All (λ b. b < 256) bytes × (field ≡ upper_hex bytes)

-- a hyphen, or a body of at most eleven bytes
abbrev pub IsVibText : List ℕ → Type 0
IsVibText field = (field ≡ codes "-") ⊎ (IsBody field × (length field ≤ 22))

-- the month of a first day
abbrev pub IsMonth : List ℕ → Type 0
IsMonth field = (d : Day) × IsTrue (exists d.year d.month d.day) × (d.day ≡ 1) × (field ++ codes "-01" ≡ day_text d)

-- the number of the day that a field spells; a device type in two digits
abbrev pub IsDayOf : List ℕ → ℕ → Type 0
IsDayOf field n = (d : Day) × IsTrue (exists d.year d.month d.day) × (field ≡ day_text d) × (number_of_day d ≡ Some n)

abbrev pub IsTypeOf : List ℕ → ℕ → Type 0
IsTypeOf field n = (n < 256) × (field ≡ upper_hex (n ∷ []))

-- A FIELD SPELLS a number, or nothing
abbrev pub Reads : Kind → List ℕ → Option Spelled → Type 0
Reads kind.Any field said = said ≡ None
Reads kind.Beside field said = said ≡ None
Reads kind.Two field said = (said ≡ None) × (field ≡ codes "2")
Reads kind.Dash field said = (said ≡ None) × (field ≡ codes "-")
Reads kind.Month field said = (said ≡ None) × IsMonth field
Reads kind.Use field said = (said ≡ None) × IsTrue (is_of kind.Use 32 field)
Reads kind.Flat field said = (said ≡ None) × IsTrue (is_of kind.Flat 12 field)
Reads kind.Why field said = (said ≡ None) × IsTrue (is_of kind.Why 60 field)
Reads kind.Whole field said = Says (whole_in field) said
Reads kind.WholeOrNone field said = OrDash field said (Says (whole_in field) said)
Reads kind.Ratio field said = Says (ratio_in field) said
Reads kind.Positive field said = SaysAbove0 (ratio_in field) said
Reads kind.PositiveOrNone field said = OrDash field said (SaysAbove0 (ratio_in field) said)
Reads kind.Decimal field said = SaysDecimal (decimal_in 9 field) said
Reads kind.Day field said = (n : ℕ) × IsDayOf field n × (said ≡ spelled n)
Reads kind.Offset field said = Says (minutes_in field) said
Reads kind.Identity field said = (said ≡ None) × ((i : Identity) × (i.version < 256) × (i.kind < 256) × (field ≡ text_of i))
Reads kind.Vib field said = (said ≡ None) × IsVibText field
Reads kind.Type field said = (n : ℕ) × IsTypeOf field n × (said ≡ spelled n)
Reads kind.Quantity field said = (said ≡ None) × IsSome (counted_named field)
Reads kind.How field said = ((field ≡ codes "hand") × (said ≡ spelled 0)) ⊎ ((field ≡ codes "estimated") × (said ≡ spelled 1))
Reads kind.Bodies field said = (said ≡ None) × All IsBody (fields_of field)
Reads kind.Text field said = (said ≡ None) × IsNumberText field
Reads kind.Exact field said = ((field ≡ codes "?") × (said ≡ None)) ⊎ SaysDecimal (decimal_in 9 field) said

-- ---- lines

abbrev pub is_bodies : Kind → Bool
is_bodies kind.Bodies = true
is_bodies _ = false

-- the text of fields that are left; bodies are one field
abbrev pub joined : List (List ℕ) → List ℕ
joined [] = []
joined (field ∷ []) = field
joined (field ∷ next ∷ rest) = field ++ (44 ∷ joined (next ∷ rest))

abbrev pub Fields : Type 0
Fields = List (List ℕ)

-- the field of a form that those that are left begin with, and the rest of them
abbrev pub field_of : Kind → Fields → List ℕ
field_of k [] = []
field_of k (left ∷ lefts) = if is_bodies k then joined (left ∷ lefts) else left

abbrev pub rest_of : Kind → Fields → Fields
rest_of k [] = []
rest_of k (left ∷ lefts) = if is_bodies k then [] else lefts

-- nothing is at the places that are left
abbrev pub AreBlank : Fields → List (Option Spelled) → Type 0
AreBlank fields numbers = All (λ f. f ≡ []) fields × All (λ n. n ≡ None) numbers

-- fields are of these forms, one by one, and spell these numbers
abbrev pub AreRead : List Kind → Fields → Fields → List (Option Spelled) → Type 0
AreRead [] [] fields numbers = AreBlank fields numbers
AreRead [] (left ∷ lefts) fields numbers = ⊥
AreRead (k ∷ ks) [] fields numbers = ⊥
AreRead (k ∷ ks) (left ∷ lefts) [] numbers = ⊥
AreRead (k ∷ ks) (left ∷ lefts) (field ∷ fields) [] = ⊥
AreRead (k ∷ ks) (left ∷ lefts) (field ∷ fields) (n ∷ numbers) = (field ≡ field_of k (left ∷ lefts))
    × Reads k field n × AreRead ks (rest_of k (left ∷ lefts)) fields numbers

abbrev pub or_0 : Option ℕ → ℕ
or_0 None = 0
or_0 (Some n) = n

abbrev pub is_text : Kind → Bool
is_text kind.Text = true
is_text kind.Exact = true
is_text _ = false

-- where its text stands
abbrev pub text_place : List Kind → ℕ
text_place kinds = or_0 (position is_text kinds)

-- a row of the table that the reader has: a word, what it is, how far a file has come with it, and the forms of its fields
pub record Rule : Type 0 where
  pub word : List ℕ
  pub is : Word
  pub stage : ℕ
  pub kinds : List Kind

abbrev pub rule_of : List ℕ → Word → ℕ → List Kind → Rule
rule_of word is stage kinds = record { word = word; is = is; stage = stage; kinds = kinds }

unfoldable pub rules : List Rule
rules = map (λ r. rule_of r.0.now r.1 r.2 r.3.now) ROWS

-- A LINE SAYS a word, and what its fields spell
pub record IsLine (text : List ℕ) (l : Line) : Type 0 where
  pub word : List ℕ
  pub lefts : Fields
  pub fields_are : fields_of text ≡ word ∷ lefts
  pub places : (length l.fields ≡ 7) × (length l.numbers ≡ 7)
  pub row : Any (λ r. (r.word ≡ word) × (r.is ≡ l.word) × (r.stage ≡ l.stage)
      × AreRead r.kinds lefts (map (λ f. f.now) l.fields) l.numbers × (l.text ≡ text_place r.kinds)) rules

-- a text has a question mark
abbrev pub has_mark : List ℕ → Bool
has_mark text = list_any (λ b. b == 63) text

-- a line of a number (their stages) of which a field has one
abbrev pub is_asked : Line → Bool
is_asked l = ((l.stage == 9) || (l.stage == 11)) && list_any (λ f. has_mark f.now) l.fields

-- a line asks
abbrev pub IsAsked : List ℕ → Type 0
IsAsked text = (l : Line) × IsLine text l × IsTrue (is_asked l)

-- the header of version 2
abbrev pub is_header : Fields → Bool
is_header (word ∷ version ∷ label ∷ []) = bytes_eq word (codes "audit") && bytes_eq version (codes "2")
is_header _ = false

abbrev pub digits_of : Option (Option Spelled) → Option ℕ
digits_of None = None
digits_of (Some None) = None
digits_of (Some (Some s)) = Some s.digits

-- the number at a place, where one is spelled
abbrev pub maybe_at : ℕ → Line → Option ℕ
maybe_at place l = digits_of (slice_get l.numbers place)

abbrev pub number_at : ℕ → Line → ℕ
number_at place l = or_0 (maybe_at place l)

abbrev pub HasDay : ℕ → Line → Type 0
HasDay place l = (number_at place l < 2 ^ 32) × (number_at (place + 1) l < 2 ^ 16)

-- numbers that are kept in fewer bits
abbrev pub IsBounded : Word → Line → Type 0
IsBounded word.As l = number_at 1 l < 256
IsBounded word.Span l = HasDay 1 l × HasDay 3 l
IsBounded word.Stored l = HasDay 1 l
IsBounded word.Ended l = HasDay 1 l
IsBounded _ l = ⊤

-- ---- their order: which stages a line may follow

abbrev pub may_follow : ℕ → ℕ → Bool
may_follow next before = if next == 1 then before == 0
    else if next == 2 then is_between 1 2 before
    else if next == 3 then (before == 2) || is_between 4 9 before
    else if next == 4 then is_between 3 4 before
    else if next == 5 then (before == 4) || is_between 6 9 before
    else if (next == 6) || (next == 7) then is_between 5 7 before
    else if next == 8 then is_between 5 8 before
    else if next == 9 then is_between 8 9 before
    else if next == 10 then is_between 1 2 before || ((before == 4) || is_between 8 9 before)
    else if (next == 11) || (next == 12) then is_between 10 11 before else false
