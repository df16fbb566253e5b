-- The units of fixed data (EN 13757-3, fixed data structure).
use Rattle.std.specs.Prelude.{◌≡◌, ℕ, ◌+◌, ◌-◌, ◌&&◌, Bool, true, nat_le, if◌then◌else◌, List, [], ◌∷◌, map, Option}
use Rattle.std.specs.Prelude.{Some, None, ℤ, pos, ◌+ℤ◌, int_le}
use Rattle.std.specs.List.{list_all}
use Rattle.mbdc_reading.specs.declared.content.units.FixedUnit as written
use Rattle.mbdc_reading.specs.declared.content.units.TheConstants.{FIXED_UNITS}

-- what a counter counts: its name, its unit, and its power of ten
pub record FixedUnit : Type 0 where
  pub name : List ℕ
  pub unit : List ℕ
  pub exponent : ℤ

abbrev pub unit_view : written.FixedUnit → FixedUnit
unit_view u = record { name = u.name.now; unit = u.unit.now; exponent = u.exponent }

-- Codes of one unit: the first and the last, and the power of ten of the first. Each further code stands for the next
-- power of ten.
pub record Row : Type 0 where
  pub first : ℕ
  pub last : ℕ
  pub unit : FixedUnit

abbrev pub row_of : ℕ → ℕ → List ℕ → List ℕ → ℤ → Row
row_of first last name unit exponent =
    record { first = first; last = last; unit = record { name = name; unit = unit; exponent = exponent } }

unfoldable pub unit_in : List Row → ℕ → Option FixedUnit
unit_in [] code = None
unit_in (r ∷ rows) code =
    if nat_le r.first code && nat_le code r.last
    then Some (record { name = r.unit.name; unit = r.unit.unit; exponent = r.unit.exponent +ℤ pos (code - r.first) })
    else unit_in rows code

-- the unit with this code
unfoldable pub fixed_unit : ℕ → Option FixedUnit
fixed_unit code = unit_in (map (λ r. row_of r.0 r.1 r.2.now r.3.now r.4) FIXED_UNITS) code

-- ---- for private clauses

-- no power of ten of a row leaves eight bits
abbrev pub is_narrow : Row → Bool
is_narrow r = int_le r.unit.exponent (pos 16) && nat_le r.last (r.first + 64)

abbrev pub AreNarrow : List Row → Type 0
AreNarrow rows = list_all is_narrow rows ≡ true
