-- The rows of a list of meters (this product): a meter's identity, its bus line, its primary address and its flat.
use Rattle.std.specs.Prelude.{◌≡◌, ◌≢◌, ◌⊎◌, ℕ, List, [], ◌∷◌, codes, Option, None, Result, IfOk, IfErr}
use Rattle.std.specs.Fmt.{decimal}
use Rattle.dc_address.specs.Text.{text_of}
use Rattle.dc_address.specs.declared.identity.Identity.{Identity}
use Rattle.mbdc_change.specs.Flat.{IsFlat}
use Rattle.mbdc_change.specs.Fields.{address_word, IsOfBytes}
use Rattle.mbdc_change.specs.Fields.{IsAddress, IsBusLine}
use Rattle.dc_meters.specs.Name.{capitals}
use Rattle.mbdc_fit.specs.declared.list.listed.Column.{Column}
use Rattle.mbdc_fit.specs.declared.list.listed.Column.TheVariants.{Meter, Line, Address, Flat}
use Rattle.mbdc_fit.specs.declared.list.listed.Listed.{Listed}
use Rattle.mbdc_fit.specs.declared.list.row.Row.{Row}

-- ---- columns

-- the name of a column in the first line
abbrev pub column_name : Column → List ℕ
column_name Meter = codes "meter"
column_name Line = codes "line"
column_name Address = codes "address"
column_name Flat = codes "flat"

-- ---- fields

pub record Fields : Type 0 where
  pub meter : List ℕ
  pub line : List ℕ
  pub address : List ℕ
  pub flat : List ℕ

-- those of a row of a list
abbrev pub fields_in : Listed → Fields
fields_in listed = record {
  meter = listed.meter.items;
  line = listed.line.items;
  address = listed.address.items;
  flat = listed.flat.items;
}

-- the field of a column
abbrev pub field_of : Column → Fields → List ℕ
field_of Meter f = f.meter
field_of Line f = f.line
field_of Address f = f.address
field_of Flat f = f.flat

-- a primary address, or S or nothing for secondary addressing
abbrev pub SpellsAddress : List ℕ → Option ℕ → Type 0
SpellsAddress word address = (word ≡ address_word address) ⊎ ((word ≡ []) × (address ≡ None))

pub record IsRow (row : Row) : Type 0 where
  pub meter_is : IsOfBytes row.meter
  pub line_is : IsBusLine row.line
  pub address_is : IsAddress row.address
  pub flat_is : IsFlat row.flat

-- THE ROW THAT FIELDS SPELL
pub record SpellsRow (f : Fields) (row : Row) : Type 0 where
  pub row_is : IsRow row
  pub meter_is : capitals f.meter ≡ text_of row.meter
  pub line_is : f.line ≡ decimal row.line
  pub address_is : SpellsAddress f.address row.address
  pub flat_is : f.flat ≡ row.flat

abbrev pub SpellsMeter : Fields → Type 0
SpellsMeter f = (meter : Identity) × IsOfBytes meter × (capitals f.meter ≡ text_of meter)

abbrev pub SpellsLine : Fields → Type 0
SpellsLine f = (line : ℕ) × IsBusLine line × (f.line ≡ decimal line)

abbrev pub SpellsOneAddress : Fields → Type 0
SpellsOneAddress f = (address : Option ℕ) × IsAddress address × SpellsAddress f.address address

-- the first field that doesn't spell what it has to
abbrev pub Lacks : Column → Fields → Type 0
Lacks Meter f = (meter : Identity) → IsOfBytes meter → capitals f.meter ≢ text_of meter
Lacks Line f = SpellsMeter f × ((line : ℕ) → IsBusLine line → f.line ≢ decimal line)
Lacks Address f = SpellsMeter f × SpellsLine f
    × ((address : Option ℕ) → IsAddress address → ¬ (SpellsAddress f.address address))
Lacks Flat f = SpellsMeter f × SpellsLine f × SpellsOneAddress f × ¬ (IsFlat f.flat)

-- ---- rows

-- A ROW IS READ AS what its fields spell, or as the first column whose field doesn't spell what it has to.
abbrev pub IsReadAs : Listed → Result Row Column → Type 0
IsReadAs listed read =
    IfOk read (λ row. SpellsRow (fields_in listed) row) × IfErr read (λ column. Lacks column (fields_in listed))

-- a row of a list, and what it is read as
pub record Entry : Type 0 where
  pub listed : Listed
  pub read : Result Row Column

-- each row is read as the entry at its place
abbrev pub AreReadAs : List Listed → List Entry → Type 0
AreReadAs [] [] = Unit {0}
AreReadAs [] (entry ∷ entries) = ⊥
AreReadAs (listed ∷ rows) [] = ⊥
AreReadAs (listed ∷ rows) (entry ∷ entries) =
    (entry.listed ≡ listed) × IsReadAs listed entry.read × AreReadAs rows entries
