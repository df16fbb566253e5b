-- A row of text (this product): its pieces, one after the other.
use Rattle.std.specs.Prelude.{ℕ, List, [], ◌∷◌, ◌++◌, decimal}
use Rattle.mbdc_io.specs.Words.{number_word}
use Rattle.mbdc_decode.specs.declared.tokens.pieces.Piece.{Piece}
use Rattle.mbdc_decode.specs.declared.tokens.pieces.Piece.TheVariants.{Text, Number, Word}

abbrev pub piece_text : Piece → List ℕ
piece_text (Text text) = text.now
piece_text (Number number) = decimal number
piece_text (Word number) = number_word number

-- the text of a row
abbrev pub pieces_text : List Piece → List ℕ
pieces_text [] = []
pieces_text (piece ∷ []) = piece_text piece
pieces_text (piece ∷ next ∷ rest) = piece_text piece ++ pieces_text (next ∷ rest)
