-- The first part of a text.
use Rattle.std.proofs.Common.{◌≡◌, ℕ, suc, ◌<◌, List, [], ◌∷◌, ◌++◌, length, get_or, Bool, true, false, cond, refl, ap, arith, Option, None, Some, Bor}
use Rattle.std.specs.Prelude.{◌==◌, ◌+◌}
use Rattle.std.specs.List.{onto_first}
use Rattle.mbdc_sheet.specs.Parts.{parts_of}

-- the byte at no place below the length is the mark
abbrev pub HasNo : ℕ → List ℕ → Type 0
HasNo m s = (k : ℕ) → k < length s → ¬ ((get_or s k 0 == m) ≡ true)

shorter : (m b : ℕ) (s : List ℕ) → HasNo m (b ∷ s) → HasNo m s
shorter m b s none k below = none (suc k) (omega arith)

onto : (m b : ℕ) (s : List ℕ) (parts : List (List ℕ)) → ¬ ((b == m) ≡ true) → parts_of m s ≡ parts
    → parts_of m (b ∷ s) ≡ onto_first b parts
onto m b s parts other is =
    elim (b == m) as (λ (t : Bool). (¬ (t ≡ true)) → cond t ([] ∷ parts_of m s) (onto_first b (parts_of m s)) ≡ onto_first b parts)
    [ true ↦ λ no. absurd (no refl) | false ↦ λ no. ap (onto_first b) is ] other

pub one_part : (m : ℕ) (s : List ℕ) → HasNo m s → parts_of m s ≡ s ∷ []
one_part m [] none = refl
one_part m (b ∷ s) none = onto m b s (s ∷ []) (none 0 (omega arith)) (one_part m s (shorter m b s none))

pub part_and_mark : (m : ℕ) (part rest : List ℕ) → HasNo m part → parts_of m (part ++ (m ∷ rest)) ≡ part ∷ parts_of m rest
part_and_mark m [] rest none =
    let same : (m == m) ≡ true = grind arith in
    ap (λ (t : Bool). cond t ([] ∷ parts_of m rest) (onto_first m (parts_of m rest))) same
part_and_mark m (b ∷ part) rest none =
    onto m b (part ++ (m ∷ rest)) (part ∷ parts_of m rest) (none 0 (omega arith)) (part_and_mark m part rest (shorter m b part none))

-- how much of a text is left, with one more where something is
abbrev pub left_length : Option (Bor (List ℕ)) → ℕ
left_length None = 0
left_length (Some s) = length s.now + 1
