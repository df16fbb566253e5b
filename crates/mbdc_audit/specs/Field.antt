-- The fields of a line (this product): a comma ends each but the last.
use Rattle.std.specs.Prelude.{ℕ, ◌==◌, if◌then◌else◌, List, [], ◌∷◌, Option, None, Some}

-- a byte before the first field
abbrev pub onto_field : ℕ → List (List ℕ) → List (List ℕ)
onto_field b [] = (b ∷ []) ∷ []
onto_field b (field ∷ fields) = (b ∷ field) ∷ fields

unfoldable pub fields_of : List ℕ → List (List ℕ)
fields_of [] = [] ∷ []
fields_of (b ∷ rest) = if b == 44 then [] ∷ fields_of rest else onto_field b (fields_of rest)

-- the fields of what is left of a line, where something is
abbrev pub left_fields : Option (List ℕ) → List (List ℕ)
left_fields None = []
left_fields (Some text) = fields_of text
