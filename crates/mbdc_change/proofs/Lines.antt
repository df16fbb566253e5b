-- Words one after the other.
use Rattle.std.proofs.Common.{◌≡◌, ℕ, List, ◌++◌, append_assoc}

pub regroup : (a b c : List ℕ) → (a ++ b) ++ c ≡ a ++ (b ++ c)
regroup a b c = append_assoc a b c
