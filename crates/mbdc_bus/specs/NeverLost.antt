-- A bus that is never lost (this product).
use Rattle.std.specs.Prelude.{◌≡◌, ℕ, Bool, true, false, List, []}
use Rattle.std.proofs.Common.{subst}

is_false : Bool → Type 0
is_false true = ⊥
is_false false = Unit {0}

-- its answer is silence wherever it is lost
pub never_lost : (answer : List ℕ) → false ≡ true → answer ≡ []
unfolding is_false
never_lost answer lost = absurd (subst is_false lost tt)
