-- A table of codes: rows in rising order, each for the codes up to its last one that no earlier row has. So a code has
-- one name.
use Rattle.std.specs.Prelude.{ℕ, nat_le, if◌then◌else◌, List, [], ◌∷◌, codes}

abbrev pub Rows : Type 0
Rows = List (ℕ × List ℕ)

-- the name of a code; the codes after the last row are reserved
abbrev pub name_in : Rows → ℕ → List ℕ
name_in [] code = codes "reserved"
name_in (row ∷ rows) code = if nat_le code row.0 then row.1 else name_in rows code
