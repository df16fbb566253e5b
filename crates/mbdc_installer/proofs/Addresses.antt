-- Addresses that are asked in turn.
use Rattle.std.proofs.Common.{◌≡◌, ℕ, zero, suc, ◌+◌, ◌-◌, ◌≤◌, List, ◌∷◌, ◌++◌, refl, sym, subst, arith}
use Rattle.std.specs.List.{range_with_len}
use Rattle.mbdc_installer.specs.Course.{one_if}
use Rattle.mbdc_installer.specs.Addresses.{AsksEach, AsksOne, is_late, line_of}
use Rattle.mbdc_installer.specs.Scan.{IsAsked}

-- some addresses are the first of them and the ones after it
pub first_of_range : (first count : ℕ) → 1 ≤ count → range_with_len first count ≡ first ∷ range_with_len (first + 1) (count - 1)
first_of_range first zero some = elim some [ ]
first_of_range first (suc count) some =
    let fewer : count ≡ suc count - 1 = omega arith in
    subst (λ (n : ℕ). range_with_len first (suc count) ≡ first ∷ range_with_len (first + 1) n) fewer refl

-- an address is asked, and those after it
pub asks_more : {B : Type 0} (asks_all : B → List ℕ → List ℕ → B → Type 0) (first count : ℕ) (old between new : B) (answer telegram later : List ℕ) (late rest : ℕ) → 1 ≤ count
    → IsAsked asks_all first old answer telegram between → late ≡ one_if (is_late answer telegram) rest
    → AsksEach asks_all (range_with_len (first + 1) (count - 1)) between later rest new
    → AsksEach asks_all (range_with_len first count) old (line_of first answer telegram ++ later) late new
asks_more asks_all first count old between new answer telegram later late rest some asked is more =
    let one : AsksOne asks_all first old (line_of first answer telegram) late rest between = record { answer = answer; telegram = telegram; asked = asked; line_is = refl; late_is = is } in
    subst (λ (addresses : List ℕ). AsksEach asks_all addresses old (line_of first answer telegram ++ later) late new) (sym (first_of_range first count some))
    (line_of first answer telegram, later, rest, between, refl, one, more)
