-- Blocks, as a gateway speaks them (this product): a length, then that many bytes.
use Rattle.std.specs.Prelude.{◌≡◌, ℕ, ◌<◌, ◌≤◌, Bool, true, Option, None, Some, List, ◌∷◌}
use Rattle.std.specs.Prelude.{◌++◌, length, nat_le, take}
use Rattle.std.specs.List.{All, concat, flat_map}
use Rattle.mbdc_bus.specs.Limits.{most_answer}

-- the most bytes of a block, since its length is a byte
abbrev pub most_block : ℕ
most_block = 255

-- the most blocks of an answer before the one of length 0
abbrev pub most_blocks : ℕ
most_blocks = 600

-- a request that fits one block, if any
abbrev pub is_short : Option (List ℕ) → Bool
is_short None = true
is_short (Some request) = nat_le (length request) most_block

-- ---- the spelling

abbrev pub block : List ℕ → List ℕ
block bytes = length bytes ∷ bytes

abbrev pub blocks_bytes : List (List ℕ) → List ℕ
blocks_bytes blocks = flat_map block blocks

-- a block that isn't the last one of an answer has a byte
abbrev pub IsBlock : List ℕ → Type 0
IsBlock bytes = (0 < length bytes) × (length bytes ≤ most_block)

-- these blocks may precede the block of length 0
pub record AreBlocks (blocks : List (List ℕ)) : Type 0 where
  pub each : All IsBlock blocks
  pub few : length blocks ≤ most_blocks

-- ---- answers

-- an answer's bytes are the first 300 of its blocks' bytes
abbrev pub kept_of : List (List ℕ) → List ℕ
kept_of blocks = take most_answer (concat blocks)

-- The bytes begin with the blocks of this answer and the one of length 0, and then there is the rest.
pub record Answers (bytes answer rest : List ℕ) : Type 0 where
  pub blocks : List (List ℕ)
  pub are : AreBlocks blocks
  pub parts : bytes ≡ blocks_bytes blocks ++ (0 ∷ rest)
  pub kept : answer ≡ kept_of blocks
