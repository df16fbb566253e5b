-- One life after another: the image that a life leaves can be opened, and reads as a state that it
-- stood for (this product).
use Rattle.std.specs.Prelude.{◌≡◌, ℕ, ◌≤◌, List, length, take}
use Rattle.dc_sectors.specs.Disk.{Image, settled}
use Rattle.mbdc_change.specs.State.{State}
use Rattle.mbdc_change.specs.declared.change.Change.{Change}
use Rattle.mbdc_change.specs.History.{after}
use Rattle.mbdc_log.specs.Halves.{half_len_of}
use Rattle.dc_core.specs.PendingImages.{Reads, EachStands}
use Rattle.dc_core.specs.Images.{StandsForPromised}

-- the state is that after a prefix of the changes which has all that is promised
pub record IsFront (state : State) (promised : ℕ) (changes : List Change)
    (found : State) : Type 0 where
  pub count : ℕ
  pub all_promised : promised ≤ count
  pub within : count ≤ length changes
  pub found_is : found ≡ after state (take count changes)

-- A disk that a crash left with this image may be opened, and the state that it reads as is one of those.
pub record MayFollow (half_len : ℕ) (state : State) (promised : ℕ) (changes : List Change)
    (image : Image) : Type 0 where
  pub premise : EachStands half_len (settled image)
  pub found : (found : State) → Reads half_len found image → IsFront state promised changes found

-- AN IMAGE THAT A LIFE LEAVES CAN BE OPENED, and it reads only as a state that it may stand for.
abbrev pub LivesFollow : Type 0
LivesFollow = (sectors : ℕ) (state : State) (promised : ℕ) (changes : List Change) (image : Image)
    → StandsForPromised (half_len_of sectors) state promised changes image
    → MayFollow (half_len_of sectors) state promised changes image
