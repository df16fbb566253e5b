-- A counter: numbers in eight bytes, and numbers that are added.
use Rattle.std.specs.Prelude.{◌≡◌, ◌<◌, ◌≤◌, ◌+◌, ◌^◌, ℕ, List, [], ◌∷◌, length, replicate}
use Rattle.byteorder.specs.Endian.{little_number}

abbrev pub zeros : List ℕ
zeros = replicate 8 0

-- bytes that spell a number, where the budget has room for it
pub record SpellsNumber (budget : ℕ) (bytes : List ℕ) (n : ℕ) : Type 0 where
  pub eight : length bytes ≡ 8
  pub number : n ≡ little_number 8 bytes
  pub room : 8 ≤ budget

-- bytes that spell one number to add
pub record SpellsStep (bytes : List ℕ) (steps : List ℕ) : Type 0 where
  pub eight : length bytes ≡ 8
  pub number : steps ≡ little_number 8 bytes ∷ []

-- the number after those were added
abbrev pub counted : ℕ → List ℕ → ℕ
counted n [] = n
counted n (step ∷ steps) = counted (n + step) steps

-- and it stays a number of eight bytes
abbrev pub IsWithin : ℕ → ℕ → List ℕ → Type 0
IsWithin budget n steps = counted n steps < 2 ^ 64
