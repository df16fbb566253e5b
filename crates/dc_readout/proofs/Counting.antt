-- Failed tries, counted one after the other.
use Rattle.std.proofs.Common.{◌≡◌, ◌+◌, ℕ, Bool, true, false, List, [], ◌∷◌, ◌++◌, cond, arith}
use Rattle.std.proofs.lemmas.List.Sums.{sum_by-append, sum_by-cons}
use Rattle.std.specs.Prelude.{min, count_by}
use Rattle.dc_readout.specs.Misses.{and_missed, counted, is_noise, is_other, is_silent, misses_of}
use Rattle.dc_readout.specs.declared.misses.misses.Misses.{Misses}

one_by : (b : Bool) (n m : ℕ) → m ≡ n + (cond b 1 0 + 0) → counted b (min 255 n) ≡ min 255 m
one_by true n m is = omega (arith, is)
one_by false n m is = omega (arith, is)

pub one_more : (p : List ℕ → Bool) (answers : List (List ℕ)) (answer : List ℕ) → counted (p answer) (min 255 (count_by p answers)) ≡ min 255 (count_by p (answers ++ answer ∷ []))
one_more p answers answer =
    let both = sum_by-append (λ (a : List ℕ). cond (p a) 1 0) answers (answer ∷ []) in
    let one = sum_by-cons (λ (a : List ℕ). cond (p a) 1 0) answer [] in
    one_by (p answer) (count_by p answers) (count_by p (answers ++ answer ∷ [])) (cc)

pub are_counted : (answers : List (List ℕ)) (answer : List ℕ) → and_missed answer (misses_of answers) ≡ misses_of (answers ++ answer ∷ [])
are_counted answers answer =
    let silent = one_more is_silent answers answer in
    let noise = one_more is_noise answers answer in
    let others = one_more is_other answers answer in
    cc
