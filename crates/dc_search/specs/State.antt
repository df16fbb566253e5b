-- The rule of a search, on the masks due, what was found and the selections made (this product).
use Rattle.std.specs.Prelude.{ℕ, ◌+◌, ◌-◌, ◌*◌, ◌≤◌, Bool, true, false, IsTrue, List, [], ◌∷◌, ◌++◌}
use Rattle.std.specs.Prelude.{Option, Some, None, length, map, reverse, nat_lt, ◌==◌, if◌then◌else◌}
use Rattle.std.specs.Int.Digits.{number_from_digits}
use Rattle.dc_address.specs.Mask.{matches}
use Rattle.dc_address.specs.declared.identity.Identity.{Identity}
use Rattle.dc_search.specs.Answer.{answer_of}
use Rattle.dc_search.specs.Prefix.{mask_of_digits}
use Rattle.dc_search.specs.Walk.{ten_digits}
use Rattle.dc_search.specs.declared.step.Step.{Step}
use Rattle.dc_search.specs.declared.step.Step.TheVariants.{Select, Request, Done, Budget}

pub record SearchState : Type 0 where
  -- the digits that each mask fixes which is due, the next one first
  pub due : List (List ℕ)
  -- whether the first of them was selected and a meter answered
  pub answered : Bool
  pub found : List Identity
  -- numbers that more than one meter has
  pub shared : List ℕ
  pub selections : ℕ
  pub budget : ℕ

-- all wildcards are due
abbrev pub new_search : ℕ → SearchState
new_search budget = record {
  due = [] ∷ [];
  answered = false;
  found = [];
  shared = [];
  selections = 0;
  budget = budget;
}

-- ---- the next step

-- a selection is due, and budget is left or not
abbrev pub selection : List ℕ → Bool → Step
selection digits true = Select (mask_of_digits digits)
selection digits false = Budget

abbrev pub step_by : List (List ℕ) → Bool → Bool → Step
step_by [] answered left = Done
step_by (digits ∷ rest) true left = Request
step_by (digits ∷ rest) false left = selection digits left

abbrev pub step_of : SearchState → Step
step_of s = step_by s.due s.answered (nat_lt s.selections s.budget)

-- no answer is expected
abbrev pub is_idle : Step → Bool
is_idle (Select mask) = false
is_idle Request = false
is_idle Done = true
is_idle Budget = true

-- ---- after an answer

abbrev pub first_of : List (List ℕ) → List ℕ
first_of [] = []
first_of (digits ∷ rest) = digits

abbrev pub rest_of : List (List ℕ) → List (List ℕ)
rest_of [] = []
rest_of (digits ∷ rest) = rest

-- the first mask, if one is due
abbrev pub next_due : List (List ℕ) → Option (List ℕ)
next_due [] = None
next_due (digits ∷ rest) = Some digits

-- the first mask is finished
abbrev pub settled : SearchState → SearchState
settled s = record s { due = rest_of s.due; answered = false }

-- the answer to a selection: silence means that no meter matches; any byte is followed by a request
abbrev pub after_selection : List ℕ → SearchState → SearchState
after_selection [] s = settled (record s { selections = s.selections + 1 })
after_selection (byte ∷ bytes) s = record s { answered = true; selections = s.selections + 1 }

-- one meter answered
abbrev pub after_one : Identity → SearchState → SearchState
after_one meter s = settled (record s { found = s.found ++ meter ∷ [] })

-- answers collided with all eight digits fixed: the number is shared
abbrev pub after_shared : SearchState → SearchState
after_shared s = settled (record s {
  shared = s.shared ++ number_from_digits 10 (first_of s.due) ∷ [];
})

-- the masks with the next digit
abbrev pub children : List ℕ → List (List ℕ)
children digits = map (λ digit. digits ++ digit ∷ []) ten_digits

-- answers collided with fewer digits fixed: the ten masks with the next digit come first
abbrev pub after_split : SearchState → SearchState
after_split s = record s { due = children (first_of s.due) ++ rest_of s.due; answered = false }

abbrev pub after_collision : SearchState → SearchState
after_collision s = if length (first_of s.due) == 8 then after_shared s else after_split s

-- the answer to a request: one meter that the mask asks for, or anything else
abbrev pub after_meter : Option Identity → SearchState → SearchState
after_meter None s = after_collision s
after_meter (Some meter) s = if matches (mask_of_digits (first_of s.due)) meter
    then after_one meter s else after_collision s

abbrev pub after_step : Step → List ℕ → SearchState → SearchState
after_step (Select mask) bytes s = after_selection bytes s
after_step Request bytes s = after_meter (answer_of bytes) s
after_step Done bytes s = s
after_step Budget bytes s = s

-- the search after an answer of these bytes
abbrev pub after : List ℕ → SearchState → SearchState
after bytes s = after_step (step_of s) bytes s

-- ---- the representation of a search

-- the next mask, and those after it from the end of their list
abbrev pub due_of : Option (List ℕ) → List (List ℕ) → List (List ℕ)
due_of None later = []
due_of (Some digits) later = digits ∷ reverse later

-- where no mask is next, the list is empty
abbrev pub is_ended : Option (List ℕ) → List (List ℕ) → Bool
is_ended None [] = true
is_ended None (digits ∷ more) = false
is_ended (Some digits) later = true

pub record IsSearch (current : Option (List ℕ)) (later : List (List ℕ))
    (selections budget : ℕ) : Type 0 where
  pub ended : IsTrue (is_ended current later)
  pub within : selections ≤ budget

-- ---- a search ends

-- maximum number of answers to come: two for each selection left in the budget, and one if a
-- request is out
abbrev pub rounds_left : SearchState → ℕ
rounds_left s = 2 * (s.budget - s.selections) + (if s.answered then 1 else 0)
