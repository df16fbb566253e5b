-- A sink that holds bytes back, as contracts see it.
use Rattle.std.specs.Prelude.{ℕ, List}

-- its writer, the bytes that it holds back, and how many it can hold
pub record Holding (W : Type 0) : Type 0 where
  pub writer : W
  pub held : List ℕ
  pub capacity : ℕ
