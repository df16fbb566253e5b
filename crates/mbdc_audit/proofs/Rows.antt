-- The text of a row is that of its first piece and of the others.
use Rattle.std.proofs.Common.{◌≡◌, refl, ℕ, zero, suc, ◌-◌, ◌≤◌, List, [], ◌∷◌, ◌++◌, length, take, drop, get_or, ap, ◌∙◌, subst, arith, append-nil}
use Rattle.mbdc_io.specs.Stream.{PutsFront}
use Rattle.mbdc_io.specs.declared.stream.Sink.{Ghosts}
use Rattle.mbdc_io.proofs.Pieces.{puts_front-first}
use Rattle.mbdc_audit.specs.Told.{piece_text, pieces_text}
use Rattle.mbdc_audit.specs.declared.teller.Piece.{Piece}

all_of : (row : List Piece) (n : ℕ) → n ≡ length row → take n row ≡ row
all_of [] zero is = refl
all_of [] (suc n) is = absurd (omega arith)
all_of (piece ∷ row) zero is = absurd (omega arith)
all_of (piece ∷ row) (suc n) is = ap (λ (r : List Piece). piece ∷ r) (all_of row n (omega arith))

first : (piece : Piece) (rest : List Piece) → piece_text piece ++ pieces_text rest ≡ pieces_text (piece ∷ rest)
first piece [] = append-nil (piece_text piece)
first piece (next ∷ rest) = refl

pub first_piece : (row : List Piece) (other : Piece) → 1 ≤ length row
    → piece_text (get_or row 0 other) ++ pieces_text (take (length row - 1) (drop 1 row)) ≡ pieces_text row
first_piece [] other some = absurd (omega arith)
first_piece (front ∷ rest) other some =
    ap (λ (r : List Piece). piece_text front ++ pieces_text r) (all_of rest (length (front ∷ rest) - 1) (omega arith)) ∙ first front rest

-- the put of the first piece failed
pub not_first : {S : Type 0} (g : Ghosts S) (old new : S) (row : List Piece) (other : Piece) → 1 ≤ length row
    → PutsFront (g.written old) (g.written new) (piece_text (get_or row 0 other)) → PutsFront (g.written old) (g.written new) (pieces_text row)
not_first g old new row other some front =
    subst (λ (bytes : List ℕ). PutsFront (g.written old) (g.written new) bytes) (first_piece row other some) (puts_front-first _ front)
