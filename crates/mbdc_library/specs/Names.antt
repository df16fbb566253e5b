-- Names by their numbers (this product; the names are those of the standard's codes).
use Rattle.std.specs.Prelude.{ℕ, ◌-◌, ◌/◌, ◌%◌, ◌==◌, nat_lt, if◌then◌else◌, List, [], ◌∷◌, map, codes, Option, Some, None}
use Rattle.dc_records.specs.Fields.{control_name, ci_name, function_name, application_name}
use Rattle.dc_records.specs.Media.{medium_name}
use Rattle.mbdc_reading.specs.Codes.{code_at}
use Rattle.mbdc_reading.specs.Security.{medium_of, security_name}
use Rattle.mbdc_reading.specs.Units.{FixedUnit, fixed_unit}
use Rattle.mbdc_reading.specs.Vifes.{vife_at}
use Rattle.mbdc_library.specs.declared.names.TheConstants.{READING_NAMES, TYPE_NAMES, ERROR_NAMES, FRAME_FAULT_NAMES, BODY_FAULT_NAMES}

-- the name at a place of a list
abbrev pub name_in : List (List ℕ) → ℕ → List ℕ
name_in [] place = []
name_in (name ∷ names) place = if place == 0 then name else name_in names (place - 1)

abbrev pub fixed_name : Option FixedUnit → List ℕ
fixed_name None = codes "reserved"
fixed_name (Some u) = u.name

abbrev pub fixed_unit_text : Option FixedUnit → List ℕ
fixed_unit_text None = []
fixed_unit_text (Some u) = u.unit

-- the names of media of fixed data, of lists and of VIFEs, by their tables
unfoldable pub listed_name : ℕ → ℕ → List ℕ
listed_name table place =
    if table == 3 then medium_of place
    else if table == 7 then name_in (map (λ s. s.now) READING_NAMES) place
    else if table == 8 then name_in (map (λ s. s.now) TYPE_NAMES) place
    else if table == 9 then name_in (map (λ s. s.now) ERROR_NAMES) place
    else if table == 12 then (vife_at place).name
    else if table == 13 then (vife_at place).text
    else if table == 14 then name_in (map (λ s. s.now) FRAME_FAULT_NAMES) place
    else if table == 15 then name_in (map (λ s. s.now) BODY_FAULT_NAMES) place
    else []

-- the names of states, security modes and functions, and of what lists have
unfoldable pub coded_name : ℕ → ℕ → List ℕ
coded_name table code =
    if table == 4 then application_name code
    else if table == 5 then security_name code
    else if table == 6 then function_name code
    else listed_name table code

-- the names of numbers below 256, by their tables
unfoldable pub byte_name : ℕ → ℕ → List ℕ
byte_name table code =
    if table == 0 then control_name code
    else if table == 1 then ci_name code
    else if table == 2 then medium_name code
    else coded_name table code

-- The codes of quantities and units have two bytes, and those of fixed data come after them; the VIFEs of record errors come after the
-- other reasons for no value.
abbrev pub paged_name : ℕ → ℕ → ℕ → ℕ → List ℕ
paged_name table number page code =
    if table == 10 then (if nat_lt page 256 then (code_at number).name else if nat_lt 256 page then [] else fixed_name (fixed_unit code))
    else if table == 11 then (if nat_lt page 256 then (code_at number).unit else if nat_lt 256 page then [] else fixed_unit_text (fixed_unit code))
    else if page == 0 then byte_name table code
    else if page == 1 then (if table == 9 then (vife_at code).name else [])
    else []

unfoldable pub name_of : ℕ → ℕ → List ℕ
name_of table number = paged_name table number (number / 256) (number % 256)
