-- One exchange on the gateway's side (this product): a block is taken, and the blocks of an answer
-- are put.
use Rattle.std.specs.Prelude.{◌≡◌, ℕ, List, [], ◌∷◌, Option, length}
use Rattle.mbdc_bus.specs.Blocks.{Answers}
use Rattle.dc_readout.specs.Standing.{Standing}
use Rattle.mbdc_bus.specs.WorldLine.{Hears}
use Rattle.mbdc_io.specs.Stream.{Puts, Takes}

-- one block of these bytes; no block for no bytes
abbrev pub blocks_with : List ℕ → List (List ℕ)
blocks_with [] = []
blocks_with (byte ∷ more) = (byte ∷ more) ∷ []

-- this many bytes were put: the blocks of this answer
pub record PutsAnswer (before after : Option (List ℕ)) (answer : List ℕ) (count : ℕ) : Type 0 where
  pub bytes : List ℕ
  pub puts : Puts before after bytes
  pub blocks : Answers bytes answer []
  pub counted : count ≡ length bytes

-- One block was taken, the meters received it as a request, and the answer was put.
pub record Serves (left left_after written written_after : Option (List ℕ))
    (before after : List Standing) (count : ℕ) : Type 0 where
  pub request : List ℕ
  pub takes : Takes left left_after (length request ∷ request)
  pub answer : List ℕ
  pub hears : Hears request before after answer
  pub puts : PutsAnswer written written_after answer count
