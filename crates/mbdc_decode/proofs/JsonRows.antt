-- A row is its first cell and the others.
use Rattle.std.proofs.Common.{◌≡◌, refl, ℕ, zero, suc, ◌-◌, ◌≤◌, ◌<◌, List, [], ◌∷◌, ◌++◌, length, take, drop, get_or, ap, sym, ◌∙◌, arith, append-nil}
use Rattle.json.specs.Token.{Token}
use Rattle.mbdc_decode.specs.Object.{fields_tokens}
use Rattle.mbdc_decode.proofs.ObjectTexts.{fields-cons}
use Rattle.mbdc_decode.specs.Row.{field_of, row_fields}
use Rattle.mbdc_decode.specs.declared.objects.row.Cell.{Cell}

pub no_cell : (row : List Cell) → length row < 1 → [] ≡ fields_tokens (row_fields row)
unfolding fields_tokens
no_cell [] none = refl
no_cell (cell ∷ rest) none = absurd (omega arith)

all_of : (row : List Cell) (n : ℕ) → n ≡ length row → take n row ≡ row
all_of [] zero is = refl
all_of [] (suc n) is = absurd (omega arith)
all_of (cell ∷ row) zero is = absurd (omega arith)
all_of (cell ∷ row) (suc n) is = ap (λ (r : List Cell). cell ∷ r) (all_of row n (omega arith))

pub first_cell : (row : List Cell) (cell : Cell) → 1 ≤ length row → cell ≡ get_or row 0 cell
    → fields_tokens (field_of cell ∷ []) ++ (fields_tokens (row_fields (take (length row - 1) (drop 1 row))) ++ []) ≡ fields_tokens (row_fields row)
first_cell [] cell some is = absurd (omega arith)
first_cell (first ∷ rest) cell some is =
    ap (λ (r : List Cell). fields_tokens (field_of cell ∷ []) ++ (fields_tokens (row_fields r) ++ [])) (all_of rest (length (first ∷ rest) - 1) (omega arith))
    ∙ ap (λ (ts : List Token). fields_tokens (field_of cell ∷ []) ++ ts) (append-nil (fields_tokens (row_fields rest)))
    ∙ ap (λ (c : Cell). fields_tokens (field_of c ∷ []) ++ fields_tokens (row_fields rest)) is
    ∙ sym (fields-cons (field_of first) (row_fields rest))
