-- Which steps of a period are marked (this product's rule). A doubtful step doesn't say which of its
-- two values is false, so the step to the first one and the step from the second one are marked too.
use Rattle.std.specs.Prelude.{ℕ, Bool, false, ◌&&◌, ◌||◌, nat_lt, nat_le, List, [], ◌∷◌, filter}
use Rattle.mbdc_audit.specs.declared.consumption.entry.Entry.{Entry}
use Rattle.mbdc_audit.specs.Consumption.Step.{with_next, is_doubtful, is_exchange}

-- A step from a to b touches a period: it ends after the period begins, and begins before the
-- period ends. One that takes no time touches the period that its moment ends.
abbrev pub touches : ℕ → ℕ → Entry → Entry → Bool
touches from to a b = nat_lt from b.moment && (nat_lt a.moment to || nat_le b.moment to)

-- the step to an entry, or the one from it, touches a period
abbrev pub touch_one : ℕ → ℕ → Entry → Entry → Entry → Bool
touch_one from to before e after = touches from to before e || touches from to e after

-- a step: two entries that follow one another, and whether the step before it, and the one after it,
-- are doubtful
pub record Step : Type 0 where
  pub before : Entry
  pub after : Entry
  pub is_after_doubtful : Bool
  pub is_before_doubtful : Bool

-- whether the step from an entry to the first of the later ones is doubtful
abbrev pub is_doubtful_next : Entry → List Entry → Bool
is_doubtful_next a [] = false
is_doubtful_next a (b ∷ rest) = is_doubtful a b

-- the steps from each entry to the next, the first of them after a doubtful one or not
abbrev pub steps_after : Bool → List Entry → List Step
steps_after doubtful [] = []
steps_after doubtful (a ∷ []) = []
steps_after doubtful (a ∷ b ∷ rest) = (record {
  before = a;
  after = b;
  is_after_doubtful = doubtful;
  is_before_doubtful = is_doubtful_next b rest;
}) ∷ steps_after (is_doubtful a b) (b ∷ rest)

-- the step, the one before it, or the one after it is doubtful
abbrev pub is_marked : Step → Bool
is_marked s = s.is_after_doubtful || (is_doubtful s.before s.after || s.is_before_doubtful)

abbrev pub is_marked_in : ℕ → ℕ → Step → Bool
is_marked_in from to s = is_marked s && touches from to s.before s.after

-- the marked steps that touch a period
abbrev pub marked_in : List Entry → ℕ → ℕ → List Step
marked_in entries from to = filter (is_marked_in from to) (steps_after false entries)

-- the steps between different meters that touch a period
abbrev pub exchanges_in : List Entry → ℕ → ℕ → List (Entry × Entry)
exchanges_in entries from to =
    filter (λ p. is_exchange p.0 p.1 && touches from to p.0 p.1) (with_next entries)
