-- The words of a billing office's line (this product): single spaces separate them, and a number
-- has one spelling.
use Rattle.std.specs.Prelude.{◌≡◌, ◌≢◌, ℕ, ◌<◌, ◌==◌, Bool, not, List, length, slice_index, IsTrue}
use Rattle.std.specs.List.{list_all}

abbrev pub is_space : ℕ → Bool
is_space byte = byte == 32

abbrev pub is_inside : ℕ → Bool
is_inside byte = not (is_space byte)

-- no byte is a space
abbrev pub IsWord : List ℕ → Type 0
IsWord bytes = IsTrue (list_all is_inside bytes)

-- the word has no sign, and no leading 0 before other digits
pub record BeginsNumber (word : List ℕ) : Type 0 where
  pub some : 0 < length word
  pub unsigned : slice_index word 0 ≢ 43
  pub alone : slice_index word 0 ≡ 48 → length word ≡ 1
