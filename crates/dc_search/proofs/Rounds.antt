-- A search ends: each expected answer leaves fewer.
use Rattle.std.specs.Prelude.{◌≡◌, ℕ, ◌+◌, ◌-◌, ◌*◌, ◌<◌, ◌≤◌, refl, Bool, true, false, List, [], ◌∷◌, Option, Some, None, length, nat_lt, ◌==◌, if◌then◌else◌}
use Rattle.std.proofs.Common.{ap, arith, subst, sym, ◌∙◌}
use Rattle.std.proofs.lemmas.Bool.{ltb-true}
use Rattle.dc_address.specs.Mask.{matches}
use Rattle.dc_address.specs.declared.identity.Identity.{Identity}
use Rattle.dc_search.specs.Answer.{answer_of}
use Rattle.dc_search.specs.Prefix.{mask_of_digits}
use Rattle.dc_search.specs.State.{SearchState, after, after_collision, after_meter, after_one, after_selection, after_shared, after_split, after_step, first_of, is_idle, rounds_left, step_by, step_of}

-- a meter's answer finishes the first mask
record IsSettled (before now : SearchState) : Type 0 where
  answered : now.answered ≡ false
  selections : now.selections ≡ before.selections
  budget : now.budget ≡ before.budget

settled_collision : (s : SearchState) (full : Bool) → IsSettled s (if full then after_shared s else after_split s)
settled_collision s true = record { answered = refl; selections = refl; budget = refl }
settled_collision s false = record { answered = refl; selections = refl; budget = refl }

settled_one : (s : SearchState) (meter : Identity) (fits : Bool) → IsSettled s (if fits then after_one meter s else after_collision s)
settled_one s meter true = record { answered = refl; selections = refl; budget = refl }
settled_one s meter false = settled_collision s (length (first_of s.due) == 8)

settled_meter : (s : SearchState) (meter : Option Identity) → IsSettled s (after_meter meter s)
settled_meter s None = settled_collision s (length (first_of s.due) == 8)
settled_meter s (Some meter) = settled_one s meter (matches (mask_of_digits (first_of s.due)) meter)

at_most_one : (b : Bool) → (if b then 1 else 0) ≤ 1
at_most_one true = omega arith
at_most_one false = omega arith

one_fewer : (now before : SearchState) → IsSettled before now → before.answered ≡ true → rounds_left now < rounds_left before
one_fewer now before settles is =
    let later : rounds_left now ≡ 2 * (before.budget - before.selections) + 0 =
    ap (λ b. 2 * (b - now.selections) + (if now.answered then 1 else 0)) settles.budget
    ∙ ap (λ n. 2 * (before.budget - n) + (if now.answered then 1 else 0)) settles.selections
    ∙ ap (λ a. 2 * (before.budget - before.selections) + (if a then 1 else 0)) settles.answered in
    let earlier : rounds_left before ≡ 2 * (before.budget - before.selections) + 1 =
    ap (λ a. 2 * (before.budget - before.selections) + (if a then 1 else 0)) is in
    subst (λ n. n < rounds_left before) (sym later) (subst (λ n. 2 * (before.budget - before.selections) + 0 < n) (sym earlier) (omega arith))

one_made : (now before : SearchState) → now.budget ≡ before.budget → now.selections ≡ before.selections + 1 → before.selections < before.budget → rounds_left now < rounds_left before
one_made now before budget made room =
    let bound : (b : Bool) → (if b then 1 else 0) ≤ 1 = at_most_one in
    let later : 2 * (now.budget - now.selections) + (if now.answered then 1 else 0) ≤ 2 * (now.budget - now.selections) + 1 = omega (arith, bound now.answered) in
    omega (arith, later, budget, made)

rounds_by : (bytes : List ℕ) (s : SearchState) (due : List (List ℕ)) (answered left : Bool) → s.answered ≡ answered → nat_lt s.selections s.budget ≡ left
    → is_idle (step_by due answered left) ≡ false → rounds_left (after_step (step_by due answered left) bytes s) < rounds_left s
rounds_by bytes s [] answered left is room busy = cc
rounds_by bytes s (digits ∷ rest) true left is room busy = one_fewer (after_meter (answer_of bytes) s) s (settled_meter s (answer_of bytes)) is
rounds_by bytes s (digits ∷ rest) false false is room busy = cc
rounds_by [] s (digits ∷ rest) false true is room busy = one_made (after_selection [] s) s refl refl (ltb-true _ _ room)
rounds_by (byte ∷ bytes) s (digits ∷ rest) false true is room busy = one_made (after_selection (byte ∷ bytes) s) s refl refl (ltb-true _ _ room)

-- whatever is received, fewer answers are left
pub rounds_left-after : (bytes : List ℕ) (s : SearchState) → is_idle (step_of s) ≡ false → rounds_left (after bytes s) < rounds_left s
rounds_left-after bytes s busy = rounds_by bytes s s.due s.answered (nat_lt s.selections s.budget) refl refl busy
