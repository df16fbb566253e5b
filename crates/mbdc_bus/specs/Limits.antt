-- The limits of a request and of an answer on any bus (this product).
use Rattle.std.specs.Prelude.{ℕ}

-- the most bytes of a request: a block of the block protocol holds no more
abbrev pub most_request : ℕ
most_request = 255

-- the most bytes of an answer that are kept
abbrev pub most_answer : ℕ
most_answer = 300
