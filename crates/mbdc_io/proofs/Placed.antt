-- A piece placed after the first bytes of a room.
use Rattle.std.proofs.Common.{◌≡◌, ℕ, ◌+◌, List, ◌++◌, length, take, sym, ap, ◌∙◌}
use Rattle.std.proofs.Math.Seq.{take-append-add}

pub piece_placed : (room front free : List ℕ) (at n : ℕ) → front ≡ take at room → length front ≡ at → take (at + n) (front ++ free) ≡ take at room ++ take n free
piece_placed room front free at n is long =
    ap (λ (k : ℕ). take (k + n) (front ++ free)) (sym long) ∙ take-append-add front free n ∙ ap (λ (t : List ℕ). t ++ take n free) is
