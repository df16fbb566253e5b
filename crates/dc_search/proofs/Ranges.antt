-- Lists of numbers that ascend within a range, and lists that have an element.
use Rattle.std.proofs.Common.{◌≡◌, ℕ, zero, suc, ◌+◌, ◌<◌, ◌≤◌, ◌⊎◌, inl, inr, List, [], ◌∷◌, ◌++◌, length, get_or, arith, ap, sym, subst}
use Rattle.std.specs.Prelude.{Contains}
use Rattle.std.specs.List.Sorted.{IsStrictlyIncreasing}

-- from low up, below high, each above the one before
abbrev pub Ascending : ℕ → ℕ → List ℕ → Type 0
Ascending low high [] = low ≤ high
Ascending low high (x ∷ xs) = (low ≤ x) × Ascending (x + 1) high xs

pub Ascending-ordered : (low high : ℕ) (xs : List ℕ) → Ascending low high xs → low ≤ high
Ascending-ordered low high [] is = is
Ascending-ordered low high (x ∷ xs) is = let rest : x + 1 ≤ high = Ascending-ordered (x + 1) high xs is.1 in omega (arith, is.0)

pub Ascending-lower : (lower low high : ℕ) (xs : List ℕ) → lower ≤ low → Ascending low high xs → Ascending lower high xs
Ascending-lower lower low high [] below is = omega arith
Ascending-lower lower low high (x ∷ xs) below is = (omega (arith, is.0), is.1)

pub Ascending-append : (low middle high : ℕ) (xs ys : List ℕ) → Ascending low middle xs → Ascending middle high ys → Ascending low high (xs ++ ys)
Ascending-append low middle high [] ys first second = Ascending-lower low middle high ys first second
Ascending-append low middle high (x ∷ xs) ys first second = (first.0, Ascending-append (x + 1) middle high xs ys first.1 second)

pub IsStrictlyIncreasing-from : (low high : ℕ) (xs : List ℕ) → Ascending low high xs → IsStrictlyIncreasing xs
IsStrictlyIncreasing-from low high [] is k within = absurd (omega arith)
IsStrictlyIncreasing-from low high (x ∷ []) is k within = absurd (omega arith)
IsStrictlyIncreasing-from low high (x ∷ y ∷ ys) is zero within = omega (arith, is.1.0)
IsStrictlyIncreasing-from low high (x ∷ y ∷ ys) is (suc k) within =
    let later : get_or (y ∷ ys) k 0 < get_or (y ∷ ys) (k + 1) 0 = IsStrictlyIncreasing-from (x + 1) high (y ∷ ys) is.1 k (omega arith) in
    let next : get_or (x ∷ y ∷ ys) (suc k + 1) 0 ≡ get_or (y ∷ ys) (k + 1) 0 = let i : suc k + 1 ≡ suc (k + 1) = omega arith in ap (λ i. get_or (x ∷ y ∷ ys) i 0) i in
    subst (λ n. get_or (y ∷ ys) k 0 < n) (sym next) later

-- x is in the list
abbrev pub Has : {X : Type 0} → List X → X → Type 0
Has [] x = ⊥
Has (y ∷ ys) x = (y ≡ x) ⊎ Has ys x

pub Has-append_left : {X : Type 0} (xs ys : List X) (x : X) → Has xs x → Has (xs ++ ys) x
Has-append_left [] ys x has = absurd has
Has-append_left (y ∷ rest) ys x has = elim has [ inl e ↦ inl e | inr h ↦ inr (Has-append_left rest ys x h) ]

pub Has-append_right : {X : Type 0} (xs ys : List X) (x : X) → Has ys x → Has (xs ++ ys) x
Has-append_right [] ys x has = has
Has-append_right (y ∷ rest) ys x has = inr (Has-append_right rest ys x has)

pub Has-append_cases : {X : Type 0} (xs ys : List X) (x : X) → Has (xs ++ ys) x → Has xs x ⊎ Has ys x
Has-append_cases [] ys x has = inr has
Has-append_cases (y ∷ rest) ys x has =
    elim has [ inl e ↦ inl (inl e) | inr h ↦ elim (Has-append_cases rest ys x h) [ inl a ↦ inl (inr a) | inr b ↦ inr b ] ]

pub Contains-from_has : {X : Type 0} (xs : List X) (x : X) → Has xs x → Contains xs x
Contains-from_has [] x has = absurd has
Contains-from_has (y ∷ ys) x has =
    elim has [ inl e ↦ (0, omega arith, e) | inr h ↦ let c = Contains-from_has ys x h in (suc c.0, omega (arith, c.1), c.2) ]

has_at : {X : Type 0} (xs : List X) (x : X) (k : ℕ) → k < length xs → get_or xs k x ≡ x → Has xs x
has_at [] x k within is = absurd (omega arith)
has_at (y ∷ ys) x zero within is = inl is
has_at (y ∷ ys) x (suc k) within is = inr (has_at ys x k (omega arith) is)

pub has_from_Contains : {X : Type 0} (xs : List X) (x : X) → Contains xs x → Has xs x
has_from_Contains xs x c = has_at xs x c.0 c.1 c.2
