-- Manufacturer codes: three letters in 16 bits (EN 13757-3, manufacturer identification).
use Rattle.std.specs.Prelude.{ℕ, ◌+◌, ◌-◌, ◌*◌, ◌/◌, ◌%◌, ◌≤◌, Bool, ◌&&◌, nat_le}

-- the code of three letters, which are ASCII codes
abbrev pub maker_code : ℕ → ℕ → ℕ → ℕ
maker_code first second third = (first - 64) * 1024 + (second - 64) * 32 + (third - 64)

-- the letters of a code: five bits each, the first in the highest, counted from A = 1
abbrev pub first_letter : ℕ → ℕ
first_letter maker = 64 + maker / 1024

-- the second letter: bits 9 to 5
abbrev pub second_letter : ℕ → ℕ
second_letter maker = 64 + maker / 32 % 32

-- the third letter: bits 4 to 0
abbrev pub third_letter : ℕ → ℕ
third_letter maker = 64 + maker % 32

-- a letter A to Z
pub record IsLetter (code : ℕ) : Type 0 where
  pub low : 65 ≤ code
  pub high : code ≤ 90

-- a code of three letters
pub record IsMaker (maker : ℕ) : Type 0 where
  pub first : IsLetter (first_letter maker)
  pub second : IsLetter (second_letter maker)
  pub third : IsLetter (third_letter maker)

-- the same as tests
abbrev pub is_letter : ℕ → Bool
is_letter code = nat_le 65 code && nat_le code 90

-- test: all three letters of the manufacturer code are A to Z
abbrev pub is_maker : ℕ → Bool
is_maker maker = is_letter (first_letter maker) &&
    (is_letter (second_letter maker) && is_letter (third_letter maker))
