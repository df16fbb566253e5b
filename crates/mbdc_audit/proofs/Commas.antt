-- The first field of a text.
use Rattle.std.proofs.Common.{◌≡◌, ℕ, suc, ◌<◌, List, [], ◌∷◌, ◌++◌, length, get_or, Bool, true, false, cond, refl, ap, arith}
use Rattle.std.specs.Prelude.{◌==◌}
use Rattle.mbdc_audit.specs.Field.{fields_of, onto_field}

-- the byte at no place below the length is a comma
abbrev pub HasNoComma : List ℕ → Type 0
HasNoComma s = (k : ℕ) → k < length s → ¬ ((get_or s k 0 == 44) ≡ true)

shorter : (b : ℕ) (s : List ℕ) → HasNoComma (b ∷ s) → HasNoComma s
shorter b s none k below = none (suc k) (omega arith)

onto : (b : ℕ) (s : List ℕ) (fields : List (List ℕ)) → ¬ ((b == 44) ≡ true) → fields_of s ≡ fields
    → fields_of (b ∷ s) ≡ onto_field b fields
unfolding fields_of
onto b s fields other is =
    elim (b == 44) as (λ (t : Bool). (¬ (t ≡ true)) → cond t ([] ∷ fields_of s) (onto_field b (fields_of s)) ≡ onto_field b fields)
    [ true ↦ λ no. absurd (no refl) | false ↦ λ no. ap (onto_field b) is ] other

pub one_field : (s : List ℕ) → HasNoComma s → fields_of s ≡ s ∷ []
unfolding fields_of
one_field [] none = refl
one_field (b ∷ s) none = onto b s (s ∷ []) (none 0 (omega arith)) (one_field s (shorter b s none))

pub field_and_comma : (field rest : List ℕ) → HasNoComma field → fields_of (field ++ (44 ∷ rest)) ≡ field ∷ fields_of rest
unfolding fields_of
field_and_comma [] rest none = refl
field_and_comma (b ∷ field) rest none =
    onto b (field ++ (44 ∷ rest)) (field ∷ fields_of rest) (none 0 (omega arith)) (field_and_comma field rest (shorter b field none))
