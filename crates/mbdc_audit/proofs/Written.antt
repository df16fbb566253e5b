-- A list that a loop writes, one place after the other.
use Rattle.std.proofs.Common.{arith, ◌≡◌, ◌<◌, ◌+◌, ◌↔◌, ℕ, zero, suc, List, [], ◌∷◌, ◌++◌, drop, length, map, set, take, get_or, refl, sym, ap, ◌∙◌, subst}
use Rattle.std.specs.Prelude.{All}
use Rattle.std.proofs.lemmas.Grind.{common_steps, take-set_at}
use Rattle.mbdc_audit.proofs.Checks.{all_push}

-- what is written looks as what was there
pub stays : {X Y : Type 0} (f : X → Y) (xs : List X) (i : ℕ) (d x : X) → i < length xs → f x ≡ f (get_or xs i d) → map f (set xs i x) ≡ map f xs
stays f [] i d x lt e = absurd (omega (arith, lt))
stays {X} {Y} f (y ∷ xs) zero d x lt e = ap (λ (z : Y). z ∷ map f xs) e
stays {X} {Y} f (y ∷ xs) (suc i) d x lt e = ap (λ (l : List Y). f y ∷ l) (stays f xs i d x (omega (arith, lt)) e)

pub written : {X : Type 0} (P : X → Type 0) (xs : List X) (i : ℕ) (x : X) → i < length xs
    → All P (take (i + 1) (set xs i x)) ↔ (All P (take i xs) × P x)
written {X} P xs i x lt = subst (λ (l : List X). All P l ↔ (All P (take i xs) × P x)) (sym (take-set_at xs i (i + 1) x refl lt)) (all_push P (take i xs) x)

-- a vector whose slice was written has what was written
pub in_vector : {X : Type 0} (n : ℕ) (new old : List X) → n ≡ length new → take n (new ++ drop (length new) old) ≡ new
in_vector n new old e = grind (arith, common_steps)

pub twice : {X Y Z : Type 0} (f : X → Y) (g : Y → Z) (xs : List X) → map g (map f xs) ≡ map (λ x. g (f x)) xs
twice f g [] = refl
twice {X} {Y} {Z} f g (x ∷ xs) = ap (λ (l : List Z). g (f x) ∷ l) (twice f g xs)

pub looks : {X Y Z : Type 0} (f : X → Y) (g : Y → Z) (xs new old olds : List X) → xs ≡ new → old ≡ olds
    → map (λ x. g (f x)) new ≡ map (λ x. g (f x)) old → map g (map f xs) ≡ map g (map f olds)
looks {X} f g xs new old olds e e' h = ap (λ (l : List X). map g (map f l)) e
    ∙ (twice f g new ∙ (h ∙ (sym (twice f g old) ∙ ap (λ (l : List X). map g (map f l)) e')))
