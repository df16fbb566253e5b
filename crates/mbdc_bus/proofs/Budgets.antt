-- A search stays within its budget, whatever the answers.
use Rattle.std.proofs.Common.{◌≡◌, ℕ, ◌≤◌, Bool, true, false, List, [], ◌∷◌, Option, Some, None, length, nat_lt, ◌==◌, arith, refl}
use Rattle.std.specs.Prelude.{if◌then◌else◌}
use Rattle.std.proofs.lemmas.Bool.{ltb-true}
use Rattle.dc_address.specs.Mask.{matches}
use Rattle.dc_address.specs.declared.identity.Identity.{Identity}
use Rattle.dc_search.specs.Answer.{answer_of}
use Rattle.dc_search.specs.Prefix.{mask_of_digits}
use Rattle.dc_search.specs.State.{SearchState, after, after_collision, after_meter, after_one, after_shared, after_split, after_step, first_of, new_search, step_by}

pub record IsWithin (budget : ℕ) (s : SearchState) : Type 0 where
  pub given : s.budget ≡ budget
  pub made : s.selections ≤ budget

pub within_new : (budget : ℕ) → IsWithin budget (new_search budget)
within_new budget = record { given = refl; made = omega arith }

collided : (budget : ℕ) (s : SearchState) (full : Bool) → IsWithin budget s → IsWithin budget (if full then after_shared s else after_split s)
collided budget s true so = record { given = so.given; made = so.made }
collided budget s false so = record { given = so.given; made = so.made }

one : (budget : ℕ) (s : SearchState) (meter : Identity) (fits : Bool) → IsWithin budget s → IsWithin budget (if fits then after_one meter s else after_collision s)
one budget s meter true so = record { given = so.given; made = so.made }
one budget s meter false so = collided budget s (length (first_of s.due) == 8) so

response : (budget : ℕ) (s : SearchState) (meter : Option Identity) → IsWithin budget s → IsWithin budget (after_meter meter s)
response budget s None so = collided budget s (length (first_of s.due) == 8) so
response budget s (Some meter) so = one budget s meter (matches (mask_of_digits (first_of s.due)) meter) so

by_step : (budget : ℕ) (bytes : List ℕ) (s : SearchState) (due : List (List ℕ)) (answered left : Bool) → nat_lt s.selections s.budget ≡ left → IsWithin budget s
    → IsWithin budget (after_step (step_by due answered left) bytes s)
by_step budget bytes s [] answered left room so = so
by_step budget bytes s (digits ∷ rest) true left room so = response budget s (answer_of bytes) so
by_step budget bytes s (digits ∷ rest) false false room so = so
by_step budget [] s (digits ∷ rest) false true room so = let less = ltb-true s.selections s.budget room in record { given = so.given; made = omega (arith, less, so.given) }
by_step budget (byte ∷ bytes) s (digits ∷ rest) false true room so = let less = ltb-true s.selections s.budget room in record { given = so.given; made = omega (arith, less, so.given) }

pub within_step : (budget : ℕ) (bytes : List ℕ) (s : SearchState) → IsWithin budget s → IsWithin budget (after bytes s)
within_step budget bytes s so = by_step budget bytes s s.due s.answered (nat_lt s.selections s.budget) refl so
