-- What an array's `map` gives where its calls are those of a function.
use Rattle.std.proofs.Common.{◌≡◌, ◌<◌, ℕ, List, length, map, get_or, arith, sym, ◌∙◌}
use Rattle.std.specs.Fn.{Mut, Called}
use Rattle.std.specs.Array.{IsMapOf}
use Rattle.std.proofs.lemmas.List.{ext_get_or, get_or-map, length-map}

pub map_of_calls : {F A B : Type 0} {g : Mut F (A × Unit {0}) B} (f : F) (h : A → B) (d : A) (e : B) (xs : List A) (ys : List B) (n : ℕ) → IsMapOf g f xs ys n → length xs ≡ n
    → ((p : F) (x : A) (y : B) (q : F) → Called g p (x, tt) y q → y ≡ h x) → ys ≡ map h xs
map_of_calls {F} {A} {B} f h d e xs ys n is long each =
    ext_get_or e ys (map h xs) (is.long ∙ sym long ∙ sym (length-map xs h))
    (λ i within.
    let room : i < length xs = omega (arith, is.long, long) in
    let call = is.at i d e (omega (arith, is.long)) in
    each call.0 (get_or xs i d) (get_or ys i e) call.1 call.2 ∙ sym (get_or-map h xs i d e room))
