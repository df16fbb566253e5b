-- How a list of meters is read (this product): CSV, of which each record that names all four columns says in which
-- place the fields of the rows after it are.
use Rattle.std.specs.Prelude.{◌≡◌, ◌⊎◌, ◌<◌, ◌==◌, ◌||◌, ◌++◌, ℕ, Bool, not, List, [], ◌∷◌, codes, drop, filter}
use Rattle.std.specs.Prelude.{length, map}
use Rattle.std.specs.Prelude.{if◌then◌else◌, IsUtf8, nat_eq, Option, None, Some, Result, Ok, Err}
use Rattle.std.specs.Char.{is_ascii_control, to_ascii_lowercase}
use Rattle.std.specs.List.{starts_with}
use Rattle.csv.specs.Machine.{Read, next_record}
use Rattle.csv.specs.Reading.{Reached, default_config, strip_bom}
use Rattle.csv.specs.Records.{field_at, trimmed}
use Rattle.csv.specs.declared.parser.Config.{Config}
use Rattle.csv.specs.declared.parser.State.{State}
use Rattle.csv.specs.declared.parser.State.TheVariants.{StartRecord}
use Rattle.dc_address.specs.Text.{text_of}
use Rattle.dc_address.specs.declared.identity.Identity.{Identity}
use Rattle.dc_meters.specs.Means.{IsNameFault, Means}
use Rattle.dc_meters.specs.Name.{IsName, Spells}
use Rattle.dc_meters.specs.declared.named.meaning.NameFault.{NameFault}
use Rattle.dc_meters.specs.declared.named.name.Named.{Named}
use Rattle.mbdc_change.specs.State.{MeterRow, row_of}
use Rattle.mbdc_change.specs.State.{State as House}
use Rattle.mbdc_fit.specs.Rows.{Fields, column_name, fields_in}
use Rattle.mbdc_fit.specs.declared.list.listed.Column.{Column}
use Rattle.mbdc_fit.specs.declared.list.listed.Column.TheVariants.{Meter, Line, Address, Flat}
use Rattle.mbdc_fit.specs.declared.list.listed.Listed.{Listed}
use Rattle.mbdc_fit.specs.declared.list.listed.Listing.{Listing}
use Rattle.mbdc_fit.specs.declared.list.listed.Listing.TheVariants.{Rows, Lacks}
use Rattle.mbdc_fit.specs.declared.list.listed.Places.{Places}

-- ---- the records of a list

-- without carriage returns, and with a line feed at its end
abbrev pub whole_lines : List ℕ → List ℕ
whole_lines list = filter (λ byte. not (byte == 13)) list ++ 10 ∷ []

abbrev pub is_separator : ℕ → Bool
is_separator byte = byte == 44 || (byte == 59 || byte == 9)

-- the first comma, semicolon or tab of the first line, or a space
abbrev pub separator_of : List ℕ → ℕ
separator_of [] = 32
separator_of (byte ∷ bytes) = if is_separator byte then byte else if byte == 10 then 32 else separator_of bytes

abbrev pub config_of : List ℕ → Config
config_of list = record default_config { delimiter = separator_of list }

-- the bytes in which its records are; a byte order mark at the beginning counts for nothing
abbrev pub text_in : List ℕ → List ℕ
text_in list = strip_bom (whole_lines list)

-- THE RECORDS OF A LIST, each field without the white space around it. After the last one none is left, or there are
-- more than bytes.
pub record HasRecords (list : List ℕ) (records : List (List (List ℕ))) : Type 0 where
  pub raw : List (List (List ℕ))
  pub state : State
  pub left : List ℕ
  pub reached : Reached (config_of list) StartRecord (text_in list) raw state left
  pub all : (next_record (config_of list) state [] [] left ≡ None) ⊎ (length (whole_lines list) < length raw)
  pub trimmed_are : records ≡ map (map trimmed) raw

-- the field in a place; one that is missing is empty
abbrev pub given_or_empty : Option (List ℕ) → List ℕ
given_or_empty None = []
given_or_empty (Some field) = field

abbrev pub field_in : List (List ℕ) → ℕ → List ℕ
field_in fields place = given_or_empty (field_at fields place)

-- ---- a record that names the columns

-- U+FEFF in UTF-8, with which a list that was appended to another one may begin
abbrev pub mark : List ℕ
mark = 0xEF ∷ 0xBB ∷ 0xBF ∷ []

abbrev pub without_mark : List ℕ → List ℕ
without_mark field = if starts_with nat_eq field mark then drop 3 field else field

-- a field names a column in any case
abbrev pub Names : Column → List ℕ → Type 0
Names column field = map to_ascii_lowercase (without_mark field) ≡ map to_ascii_lowercase (column_name column)

-- none of the fields before this place names the column
abbrev pub IsUnnamedBefore : Column → List (List ℕ) → ℕ → Type 0
IsUnnamedBefore column fields place = (k : ℕ) → k < place → ¬ (Names column (field_in fields k))

-- the first field that names a column is in this place
pub record IsPlaceOf (column : Column) (fields : List (List ℕ)) (place : ℕ) : Type 0 where
  pub named : Names column (field_in fields place)
  pub first : IsUnnamedBefore column fields place

-- no field names the column
abbrev pub IsUnnamed : List (List ℕ) → Column → Type 0
IsUnnamed fields column = (k : ℕ) → ¬ (Names column (field_in fields k))

-- all four are named, in these places
pub record AreNamed (fields : List (List ℕ)) (places : Places) : Type 0 where
  pub meter : IsPlaceOf Meter fields places.meter
  pub line : IsPlaceOf Line fields places.line
  pub address : IsPlaceOf Address fields places.address
  pub flat : IsPlaceOf Flat fields places.flat

-- ---- a row

-- a field, with a question mark for what can't be shown
abbrev pub shown_byte : ℕ → ℕ
shown_byte byte = if is_ascii_control byte then 63 else byte

pub data IsShown : List ℕ → List ℕ → Type 0 where
  as_text : (field : List ℕ) → IsUtf8 field → IsShown field (map shown_byte field)
  no_text : (field : List ℕ) → ¬ (IsUtf8 field) → IsShown field (codes "?")

-- a flat that isn't given is that of the registered meter
abbrev pub flat_by : List ℕ → Option MeterRow → List ℕ
flat_by [] (Some row) = row.flat
flat_by [] None = []
flat_by (byte ∷ bytes) known = byte ∷ bytes

-- by a register, a number alone is the meter that has it
pub data IsResolved : Option House → Fields → Fields → Type 0 where
  without : (fields : Fields) → IsResolved None fields fields
  unnamed : (house : House) (fields : Fields) → ((name : Named) → IsName name → ¬ (Spells fields.meter name))
      → IsResolved (Some house) fields fields
  unmeant : (house : House) (fields : Fields) (name : Named) (fault : NameFault) → Spells fields.meter name
      → IsNameFault house name fault → IsResolved (Some house) fields fields
  meant : (house : House) (fields : Fields) (name : Named) (meter : Identity) → Spells fields.meter name
      → Means house name meter
      → IsResolved (Some house) fields
      (record fields { meter = text_of meter; flat = flat_by fields.flat (row_of meter house) })

-- THE ROW OF A RECORD: each field is that of the place in which its column was named
pub record IsRowOf (house : Option House) (places : Places) (given : List (List ℕ)) (row : Listed) : Type 0 where
  pub fields : Fields
  pub meter : IsShown (field_in given places.meter) fields.meter
  pub line : IsShown (field_in given places.line) fields.line
  pub address : IsShown (field_in given places.address) fields.address
  pub flat : IsShown (field_in given places.flat) fields.flat
  pub resolved : IsResolved house fields (fields_in row)

-- ---- a list

abbrev pub AreEmpty : List (List ℕ) → Type 0
AreEmpty fields = (place : ℕ) → field_in fields place ≡ []

-- such a record names no columns: this one isn't among its fields
abbrev pub IsNoTitle : List (List ℕ) → Type 0
IsNoTitle fields = (column : Column) × IsUnnamed fields column

-- THE ROWS OF THE RECORDS so far, of which the last one that names all columns gave these places. A record without a
-- field that isn't empty is no row.
pub data IsReadFrom (house : Option House) : List (List (List ℕ)) → Result Places Column → List Listed → Type 0 where
  begins : IsReadFrom house [] (Err Meter) []
  names : (before : List (List (List ℕ))) (known : Result Places Column) (rows : List Listed) (fields : List (List ℕ))
      (places : Places) → IsReadFrom house before known rows → AreNamed fields places
      → IsReadFrom house (before ++ fields ∷ []) (Ok places) rows
  skips : (before : List (List (List ℕ))) (places : Places) (rows : List Listed) (fields : List (List ℕ))
      → IsReadFrom house before (Ok places) rows → IsNoTitle fields → AreEmpty fields
      → IsReadFrom house (before ++ fields ∷ []) (Ok places) rows
  adds : (before : List (List (List ℕ))) (places : Places) (rows : List Listed) (fields : List (List ℕ)) (row : Listed)
      → IsReadFrom house before (Ok places) rows → IsNoTitle fields → ¬ (AreEmpty fields)
      → IsRowOf house places fields row → IsReadFrom house (before ++ fields ∷ []) (Ok places) (rows ++ row ∷ [])

-- the first record doesn't name this column; a list without a record names none
abbrev pub FirstLacks : Option Read → Column → Type 0
FirstLacks None column = column ≡ Meter
FirstLacks (Some read) column = IsUnnamed (map trimmed read.0) column

-- A LIST IS READ, with this register, if there is one: all its records are, or the first one lacks a column.
abbrev pub IsListOf : List ℕ → Option House → Listing → Type 0
IsListOf list house (Rows rows) = (records : List (List (List ℕ))) × HasRecords list records
    × (places : Places) × IsReadFrom house records (Ok places) rows.items
IsListOf list house (Lacks column) = FirstLacks (next_record (config_of list) StartRecord [] [] (text_in list)) column
