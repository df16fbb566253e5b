-- The parts of a text, and the pieces of a page (this product).
use Rattle.std.specs.Prelude.{ℕ, Bool, ◌+◌, ◌==◌, List, [], Option, None, Some, drop, length, map, slice_get, unwrap_or}
use Rattle.std.specs.List.{list_any, slice_split}
use Rattle.std.specs.Str.{bytes_eq}

-- what stands between the marks of a text
abbrev pub parts_of : ℕ → List ℕ → List (List ℕ)
parts_of mark text = slice_split (λ b. b == mark) text

-- the parts of what is left of a text, where something is
abbrev pub left_parts : ℕ → Option (List ℕ) → List (List ℕ)
left_parts mark None = []
left_parts mark (Some text) = parts_of mark text

-- a part, by its place from 0
abbrev pub part_at : ℕ → List ℕ → ℕ → Option (List ℕ)
part_at mark text n = slice_get (parts_of mark text) n

-- whether a word is one of these, with spaces between them
abbrev pub is_one_of : List ℕ → List ℕ → Bool
is_one_of words word = list_any (λ one. bytes_eq one word) (parts_of 32 words)

-- A PIECE of a page lies between two `<`: the tag, up to the first `>`, and the text after it.
pub record Piece : Type 0 where
  pub tag : List ℕ
  pub text : List ℕ

abbrev pub piece_of : List ℕ → Piece
piece_of part =
    let tag = unwrap_or (part_at 62 part 0) [] in
    record { tag = tag; text = drop (length tag + 1) part }

abbrev pub pieces_of : List ℕ → List Piece
pieces_of page = map piece_of (parts_of 60 page)
