-- The sounds of a wire, one after the other (this product).
use Rattle.std.specs.Prelude.{◌≡◌, ℕ, ◌≤◌, ◌<◌, List, [], ◌∷◌, ◌++◌, map, take}
use Rattle.mbdc_raw.specs.declared.wire.Came.{Came}
use Rattle.mbdc_raw.specs.declared.wire.Came.TheVariants.{Bytes, Nothing, Gap, Overdue, Silence}

-- Some bytes; nothing yet; a gap: nothing since the last byte for as long as ends an answer; overdue: nothing since the
-- request for as long as its repeat waits; silence: nothing for the whole time-out, since the request, the last byte or
-- the last silence.
pub data Sound : Type 0 where
  piece : List ℕ → Sound
  nothing : Sound
  gap : Sound
  overdue : Sound
  silence : Sound

abbrev pub bytes_of : Sound → List ℕ
bytes_of (piece bytes) = bytes
bytes_of nothing = []
bytes_of gap = []
bytes_of overdue = []
bytes_of silence = []

-- no byte came, and the time-out isn't over
abbrev pub IsAwaited : Sound → Type 0
IsAwaited (piece bytes) = ⊥
IsAwaited nothing = Unit {0}
IsAwaited gap = Unit {0}
IsAwaited overdue = Unit {0}
IsAwaited silence = ⊥

-- the bytes that came
abbrev pub bytes_in : List Sound → List ℕ
bytes_in [] = []
bytes_in (sound ∷ more) = bytes_of sound ++ bytes_in more

abbrev pub pieces : List (List ℕ) → List Sound
pieces bursts = map piece bursts

-- these sounds came one after the other
abbrev pub AreHeard : {W : Type 0} → (W → Sound → W → Type 0) → W → List Sound → W → Type 0
AreHeard hears old [] new = new ≡ old
AreHeard {W} hears old (sound ∷ more) new =
    (between : W) × hears old sound between × AreHeard hears between more new

-- ---- the result of one call

-- the first bytes of the room are those that came
abbrev pub sound_of : Came → List ℕ → Sound
sound_of (Bytes count) room = piece (take count room)
sound_of Nothing room = nothing
sound_of Gap room = gap
sound_of Overdue room = overdue
sound_of Silence room = silence

-- at least one byte came, and all of them fit
abbrev pub FitsRoom : Came → ℕ → Type 0
FitsRoom (Bytes count) room = (0 < count) × (count ≤ room)
FitsRoom Nothing room = Unit {0}
FitsRoom Gap room = Unit {0}
FitsRoom Overdue room = Unit {0}
FitsRoom Silence room = Unit {0}

-- the number of waits left: smaller after nothing or a gap, and never larger
abbrev pub Wanes : Came → ℕ → ℕ → Type 0
Wanes (Bytes count) before now = now ≤ before
Wanes Nothing before now = now < before
Wanes Gap before now = now < before
Wanes Overdue before now = now < before
Wanes Silence before now = now ≤ before
