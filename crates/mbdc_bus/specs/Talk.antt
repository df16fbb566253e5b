-- What an exchange with the gateway may give (this product), and what it leaves of its ends.
use Rattle.std.specs.Prelude.{◌≡◌, ◌⊎◌, ℕ, ◌<◌, List, [], ◌∷◌, ◌++◌, Option, IfSome, length, take}
use Rattle.mbdc_io.specs.Failures.{HasRisen}
use Rattle.mbdc_io.specs.Stream.{Takes, IsAtEnd}
use Rattle.mbdc_bus.specs.Blocks.{Answers, AreBlocks, blocks_bytes, kept_of}
use Rattle.mbdc_bus.specs.Limits.{most_answer}
use Rattle.mbdc_bus.specs.Blocks.{most_blocks}
use Rattle.mbdc_bus.specs.declared.blocks.talk.Talk.{Talk}
use Rattle.mbdc_bus.specs.declared.blocks.talk.Talk.TheVariants.{Answer, Lost}

-- ---- the two results

abbrev pub IfAnswer : Talk → (List ℕ → Type 0) → Type 0
IfAnswer (Answer answer) P = P answer
IfAnswer Lost P = Unit {0}

abbrev pub OnLost : Talk → Type 0 → Type 0
OnLost (Answer answer) P = Unit {0}
OnLost Lost P = P

-- ---- what was taken

-- An answer was taken, up to its block of length 0 and no byte after it.
pub record TakesAnswer (old new : Option (List ℕ)) (answer : List ℕ) : Type 0 where
  pub blocks : List (List ℕ)
  pub are : AreBlocks blocks
  pub taken : Takes old new (blocks_bytes blocks ++ 0 ∷ [])
  pub kept : answer ≡ kept_of blocks

-- The prefix of a block: nothing, or its length and fewer bytes than that; after the last block that an answer may
-- have, the length alone.
abbrev pub IsFront : ℕ → List ℕ → Type 0
IsFront before [] = Unit {0}
IsFront before (count ∷ bytes) = (length bytes < count) × (before ≡ most_blocks → bytes ≡ [])

-- Blocks of an answer were taken, and then a prefix of the next one.
pub record TakesFront (old new : Option (List ℕ)) : Type 0 where
  pub blocks : List (List ℕ)
  pub are : AreBlocks blocks
  pub front : List ℕ
  pub is_front : IsFront (length blocks) front
  pub taken : Takes old new (blocks_bytes blocks ++ front)

-- what is left to read begins with no answer
abbrev pub HasNoAnswer : Option (List ℕ) → Type 0
HasNoAnswer left = IfSome left (λ bytes. (answer rest : List ℕ) → Answers bytes answer rest → ⊥)

-- ---- one block

-- a take failed, or the reader is at its end
abbrev pub HasStopped : {R : Type 0} → (R → Option (List ℕ)) → (R → ℕ) → R → R → Type 0
HasStopped left failures old new = HasRisen (failures old) (failures new) ⊎ IsAtEnd (left new)

-- The content of one block was taken, and what fits of it is kept.
pub record IsContent (old new : Option (List ℕ)) (count : ℕ) (before after : List ℕ) : Type 0 where
  pub bytes : List ℕ
  pub long : length bytes ≡ count
  pub taken : Takes old new bytes
  pub kept : after ≡ take most_answer (before ++ bytes)

-- Fewer bytes than these were taken.
pub record IsCut (old new : Option (List ℕ)) (count : ℕ) : Type 0 where
  pub bytes : List ℕ
  pub short : length bytes < count
  pub taken : Takes old new bytes
