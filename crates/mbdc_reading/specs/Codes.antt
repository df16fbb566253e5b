-- The codes of value information fields (EN 13757-3, tables of primary VIF codes and of both extensions).
use Rattle.std.specs.Prelude.{◌≡◌, ℕ, ◌+◌, ◌-◌, ◌*◌, ◌/◌, ◌%◌, ◌&&◌, ◌||◌, ◌==◌, Bool, true, nat_le, if◌then◌else◌}
use Rattle.std.specs.Prelude.{List, [], ◌∷◌, length, map, codes, Option, Some, None, ℤ, pos, ◌+ℤ◌, int_le}
use Rattle.std.specs.List.{list_all}
use Rattle.dc_units.specs.declared.quantity.Quantity.{Quantity}
use Rattle.dc_units.specs.declared.quantity.Quantity.TheVariants as listed
use Rattle.dc_units.specs.Quantity.{unit_of}
use Rattle.dc_units.specs.Table as table
use Rattle.mbdc_reading.specs.declared.codes.Code as written
use Rattle.mbdc_reading.specs.declared.codes.Kind.{Kind}
use Rattle.mbdc_reading.specs.declared.codes.Kind.TheVariants.{Number, Flags, Date, DateTime, Listed, Unread}
use Rattle.mbdc_reading.specs.declared.codes.Kind.TheVariants.{Words, Digits, Identity, Letters, AnyDate}
use Rattle.mbdc_reading.specs.declared.codes.TheConstants.{CODES}

-- a code: its name, and the unit, the power of ten and the kind of its data
pub record Code : Type 0 where
  pub name : List ℕ
  pub unit : List ℕ
  pub exponent : ℤ
  pub kind : Kind

abbrev pub code_view : written.Code → Code
code_view c = record { name = c.name.now; unit = c.unit.now; exponent = c.exponent; kind = c.kind }

-- Codes of one unit: the first and the last, and the power of ten of the first. Each further code stands for the next
-- power of ten.
pub record Row : Type 0 where
  pub first : ℕ
  pub last : ℕ
  pub code : Code

abbrev pub row_of : ℕ → ℕ → List ℕ → List ℕ → ℤ → Kind → Row
row_of first last name unit exponent kind =
    record { first = first; last = last; code = record { name = name; unit = unit; exponent = exponent; kind = kind } }

abbrev pub reserved : Code
reserved = record { name = codes "reserved"; unit = []; exponent = pos 0; kind = Unread }

unfoldable pub code_in : List Row → ℕ → Code
code_in [] number = reserved
code_in (r ∷ rows) number =
    if nat_le r.first number && nat_le number r.last
    then record { name = r.code.name; unit = r.code.unit; exponent = r.code.exponent +ℤ pos (number - r.first); kind = r.code.kind }
    else code_in rows number

-- ---- codes of the due-date table

abbrev pub kind_of : Quantity → Kind
kind_of listed.Date = Date
kind_of listed.DateTime = DateTime
kind_of listed.ErrorFlags = Flags
kind_of _ = Number

abbrev pub listed_at : ℕ → Option (Quantity × ℤ)
listed_at number = if number / 256 == 0 then table.unit_at (number % 256 ∷ []) else table.unit_at (number / 256 ∷ number % 256 ∷ [])

abbrev pub as_listed : Code → Option (Quantity × ℤ) → Code
as_listed c None = c
as_listed c (Some q) = record { name = c.name; unit = unit_of q.0; exponent = q.1; kind = kind_of q.0 }

abbrev pub if_listed : Code → Kind → ℕ → Code
if_listed c Listed number = as_listed c (listed_at number)
if_listed c _ number = c

abbrev pub found : Code → ℕ → Code
found c number = if_listed c c.kind number

unfoldable pub table_code : ℕ → Code
table_code number = code_in (map (λ r. row_of r.0 r.1 r.2.now r.3.now r.4 r.5) CODES) number

-- the code with this number
unfoldable pub code_at : ℕ → Code
code_at number = found (table_code number) number

-- the number of a block's code; EF announces a table without codes
abbrev pub extends : ℕ → Bool
extends vif = (vif == 0xEF) || ((vif == 0xFB) || (vif == 0xFD))

abbrev pub number_of : List ℕ → ℕ
number_of [] = 0xFFFF
number_of (vif ∷ []) = vif % 128
number_of (vif ∷ next ∷ others) = if extends vif then 256 * vif + next % 128 else vif % 128

-- ---- for private clauses

-- no power of ten of a row leaves eight bits, and its unit is short
abbrev pub is_narrow : Row → Bool
is_narrow r = int_le r.code.exponent (pos 16) && (nat_le r.last (r.first + 64) && nat_le (length r.code.unit) 16)

abbrev pub AreNarrow : List Row → Type 0
AreNarrow rows = list_all is_narrow rows ≡ true
