-- How a buffer keeps the bytes of one frame: this product.
use Rattle.std.specs.Prelude.{◌≡◌, ℕ, ◌-◌, ◌≤◌, List, ◌++◌, length, take, replicate}

-- the longest frame: six bytes round a content of 255
abbrev pub capacity : ℕ
capacity = 261

-- the bytes, and zeros up to the end of the array
abbrev pub padded : List ℕ → List ℕ
padded bytes = bytes ++ replicate (capacity - length bytes) 0

pub record IsBuffer (bytes : List ℕ) (len : ℕ) : Type 0 where
  pub fits : len ≤ capacity
  pub counted : length (take len bytes) ≡ len
  pub zeros : padded (take len bytes) ≡ bytes
