-- Bytes in memory and in a fixed room, as contracts see them.
use Rattle.std.specs.Prelude.{ℕ, List}

-- all the bytes that went in, how many of them were taken, and how many puts failed
pub record Stored : Type 0 where
  pub bytes : List ℕ
  pub taken : ℕ
  pub failures : ℕ

-- the bytes that went into a fixed room, and how many puts failed
pub record Filled : Type 0 where
  pub bytes : List ℕ
  pub failures : ℕ
