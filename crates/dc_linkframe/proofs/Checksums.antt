-- The checksum, byte by byte.
use Rattle.std.proofs.Common.{◌≡◌, ℕ, ◌+◌, ◌%◌, List, [], ◌∷◌, arith}
use Rattle.std.specs.List.{fold}

-- bytes added without carry, one after another, make their sum without carry
pub fold_without_carry : (kept full : ℕ) (bytes : List ℕ) → kept ≡ full % 256 → fold (λ s b. (s + b) % 256) kept bytes ≡ fold (λ s b. s + b) full bytes % 256
fold_without_carry kept full [] same = same
fold_without_carry kept full (b ∷ bs) same =
    fold_without_carry ((kept + b) % 256) (full + b) bs (omega arith)
