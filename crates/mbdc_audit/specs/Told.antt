-- What is printed (this product).
use Rattle.std.specs.Prelude.{◌≡◌, ℕ, List, [], ◌∷◌, ◌++◌, IfSome, Option, codes, decimal}
use Rattle.mbdc_audit.specs.declared.teller.Piece.{Piece}
use Rattle.mbdc_audit.specs.declared.teller.Piece.TheVariants.{Text, Number}

abbrev pub piece_text : Piece → List ℕ
piece_text (Text text) = text.now
piece_text (Number number) = decimal number

-- pieces, one after the other
abbrev pub pieces_text : List Piece → List ℕ
pieces_text [] = []
pieces_text (piece ∷ []) = piece_text piece
pieces_text (piece ∷ next ∷ rest) = piece_text piece ++ pieces_text (next ∷ rest)

-- AN OUTPUT ENDS with the fault TooLarge, where it is known
abbrev pub IsTooLarge : Option (List ℕ) → Type 0
IsTooLarge output = IfSome output (λ all. (front : List ℕ)
    × (all ≡ front ++ (codes " FAULT " ++ (decimal 9 ++ (codes " TooLarge" ++ 10 ∷ [])))))
