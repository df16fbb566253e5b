-- How long a wire is looked at (this product).
use Rattle.std.specs.Prelude.{ℕ, min}

-- maximum number of times that nothing comes on a wire: so often before a request that waits for a
-- gap is sent, and so often after it
abbrev pub most_looks : ℕ
most_looks = 32767

-- a count of looks at a wire, at most that many
abbrev pub waits_of : ℕ → ℕ
waits_of count = min count most_looks
