-- A bus in two halves: bounds of what it does, and what it does in several steps (this product).
use Rattle.std.specs.Prelude.{◌≡◌, ℕ, List, [], ◌∷◌}

-- maximum number of times that an answer is found incomplete
abbrev pub most_waits : ℕ
most_waits = 65535

-- ---- several steps

-- the bus returned these answers, one after the other, with waits between them
pub data Runs {B : Type 0} (gives : B → List ℕ → B → Type 0) (waits : B → B → Type 0)
    : B → List (List ℕ) → B → Type 0 where
  rests : {old new : B} → new ≡ old → Runs gives waits old [] new
  gave : {old between new : B} {answer : List ℕ} {answers : List (List ℕ)}
      → gives old answer between
      → Runs gives waits between answers new → Runs gives waits old (answer ∷ answers) new
  waited : {old between new : B} {answers : List (List ℕ)} → waits old between
      → Runs gives waits between answers new → Runs gives waits old answers new
