-- The first bytes of what came in pieces.
use Rattle.std.proofs.Common.{◌≡◌, ℕ, zero, suc, ◌+◌, ◌-◌, ◌≤◌, List, [], ◌∷◌, ◌++◌, length, take, min, arith, refl, ap, sym, ◌∙◌, append-nil}
use Rattle.std.proofs.lemmas.List.{take_all, take_min, length-take}
use Rattle.std.proofs.Math.Seq.{take-append-add}

-- a piece is cut to the room that is left
pub kept_piece : (front more : List ℕ) (room count : ℕ) → length front ≤ room → count ≡ min (length more) (room - length front) → front ++ take count more ≡ take room (front ++ more)
kept_piece front more room count fits is =
    let cut : count ≡ min (room - length front) (length more) = omega (arith, is) in
    let whole : room ≡ length front + (room - length front) = omega (arith, fits) in
    ap (λ (n : ℕ). front ++ take n more) cut
    ∙ ap (λ (xs : List ℕ). front ++ xs) (take_min (room - length front) more)
    ∙ sym (ap (λ (n : ℕ). take n (front ++ more)) whole ∙ take-append-add front more (room - length front))

-- what is cut once is cut for good
pub take-take-append : (n : ℕ) (xs ys : List ℕ) → take n (take n xs ++ ys) ≡ take n (xs ++ ys)
take-take-append zero xs ys = refl
take-take-append (suc n) [] ys = refl
take-take-append (suc n) (x ∷ xs) ys = ap (λ (zs : List ℕ). x ∷ zs) (take-take-append n xs ys)

-- where nothing more comes
pub kept_none : (n : ℕ) (xs : List ℕ) → length xs ≤ n → xs ≡ take n (xs ++ [])
kept_none n xs fits = sym (ap (take n) (append-nil xs) ∙ take_all n xs fits)

pub length-kept : (n : ℕ) (xs : List ℕ) → length (take n xs) ≤ n
length-kept n xs = omega (arith, length-take n xs)
