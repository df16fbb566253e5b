-- A list that is mapped in place, element by element.
use Rattle.std.proofs.Common.{◌≡◌, ◌<◌, ℕ, zero, suc, List, [], ◌∷◌, ◌++◌, length, get_or, take, drop, refl, ap, arith}
use Rattle.std.specs.Prelude.{map}
use Rattle.std.proofs.Math.ListN.{set}

-- the first i elements are mapped
abbrev pub changed_front : {X : Type 0} → (X → X) → ℕ → List X → List X
changed_front f i xs = map f (take i xs) ++ drop i xs

pub changed_read : {X : Type 0} (f : X → X) (xs : List X) (i : ℕ) (d : X) → get_or (changed_front f i xs) i d ≡ get_or xs i d
changed_read f [] zero d = refl
changed_read f [] (suc i) d = refl
changed_read f (x ∷ xs) zero d = refl
changed_read f (x ∷ xs) (suc i) d = changed_read f xs i d

pub changed_more : {X : Type 0} (f : X → X) (xs : List X) (i : ℕ) (d : X) → i < length xs → set (changed_front f i xs) i (f (get_or xs i d)) ≡ changed_front f (suc i) xs
changed_more f [] i d lt = absurd (omega arith)
changed_more f (x ∷ xs) zero d lt = refl
changed_more f (x ∷ xs) (suc i) d lt = ap (λ ys. f x ∷ ys) (changed_more f xs i d (omega arith))
