-- Pairs of a loop over a list.
use Rattle.std.proofs.Common.{arith, ◌≡◌, ◌<◌, ◌+◌, ℕ, zero, suc, List, [], ◌∷◌, ◌++◌, length, take, get_or, refl, sym, ap, ◌∙◌, subst}
use Rattle.std.specs.Prelude.{All, zip}
use Rattle.std.proofs.lemmas.List.Elements.{All-append}

pub zip_more : {X : Type 0} (xs ys : List X) (i : ℕ) (d y : X) → i < length xs → length ys ≡ i
    → zip (take (i + 1) xs) (ys ++ (y ∷ [])) ≡ zip (take i xs) ys ++ ((get_or xs i d, y) ∷ [])
zip_more [] ys i d y lt e = absurd (omega (arith, lt))
zip_more (x ∷ xs) [] zero d y lt e = refl
zip_more (x ∷ xs) [] (suc i) d y lt e = absurd (omega (arith, e))
zip_more (x ∷ xs) (w ∷ ys) zero d y lt e = absurd (omega (arith, e))
zip_more {X} (x ∷ xs) (w ∷ ys) (suc i) d y lt e =
    let next : suc i + 1 ≡ suc (i + 1) = omega arith in
    ap (λ (n : ℕ). zip (take n (x ∷ xs)) (w ∷ (ys ++ (y ∷ [])))) next
    ∙ ap (λ (l : List (X × X)). (x, w) ∷ l) (zip_more xs ys i d y (omega (arith, lt)) (omega (arith, e)))

all_one : {X : Type 0} (P : X → Type 0) (x : X) → P x → All P (x ∷ [])
all_one P x h zero d lt = h
all_one P x h (suc k) d lt = absurd (omega (arith, lt))

pub all_more : {X : Type 0} (P : X × X → Type 0) (xs ys : List X) (i : ℕ) (d y : X) → i < length xs → length ys ≡ i
    → All P (zip (take i xs) ys) → P (get_or xs i d, y) → All P (zip (take (i + 1) xs) (ys ++ (y ∷ [])))
all_more {X} P xs ys i d y lt e h here = subst (λ (l : List (X × X)). All P l) (sym (zip_more xs ys i d y lt e))
    (All-append P (zip (take i xs) ys) ((get_or xs i d, y) ∷ []) h (all_one P (get_or xs i d, y) here))
