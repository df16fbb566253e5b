-- A bus on which a search is given up that hears noise alone (this product).
use Rattle.std.specs.Prelude.{◌≡◌, ◌+◌, ◌-◌, ◌^◌, min, ◌==◌, ◌||◌, ℕ, Bool, true, false, List, [], ◌∷◌, Option, None, Some}
use Rattle.std.specs.Prelude.{if◌then◌else◌, is_some}
use Rattle.mbdc_installer.specs.Hearing
use Rattle.mbdc_installer.specs.declared.bench.listening.Listening.{Listening}
use Rattle.mbdc_installer.specs.declared.other.Other.{Other}
use Rattle.dc_linkframe.specs.Reading.{frame_of}

abbrev pub one_less : Option ℕ → Option ℕ
one_less None = None
one_less (Some left) = Some (left - 1)

-- how many answers may still be noise after this one: silence is none, and after a frame nothing is given up. Where frames
-- closed a wildcard, they are frames.
abbrev pub left_with : List Other → List ℕ → Option ℕ → Option ℕ
left_with others [] left = left
left_with [] (byte ∷ bytes) left = if is_some (frame_of (byte ∷ bytes)) then None else one_less left
left_with (other ∷ more) (byte ∷ bytes) left = None

abbrev pub is_given_up : Option ℕ → Bool
is_given_up None = false
is_given_up (Some left) = left == 0

-- the answer by which a search is given up is taken for silence
abbrev pub heard_as : Option ℕ → List ℕ → List ℕ
heard_as left answer = if is_given_up left then [] else answer

-- once the search is given up, or the bus is lost, the answer is silence
abbrev pub IsSilent : Bool → List ℕ → Type 0
IsSilent is_lost answer = is_lost ≡ true → answer ≡ []

-- LATE ANSWERS: bytes that nothing on the bus could have sent, and stray acknowledgements, unless the bus was lost, and
-- is silent; their number saturates
abbrev pub late_of : {B : Type 0} → (B → Bool) → (B → ℕ) → Listening B → ℕ
late_of lost late it =
    if lost it.bus then late it.bus else min (late it.bus + it.wildcard.strays) (2 ^ 64 - 1)

-- a request goes to the bus
pub record Passed {B : Type 0} (asks : B → List ℕ → List ℕ → B → Type 0) (old : Listening B)
    (request heard : List ℕ) (new : Listening B) : Type 0 where
  pub asked : asks old.bus request heard new.bus
  pub same : new.wildcard ≡ old.wildcard

-- a request goes to the bus, and who answers a wildcard is confirmed
abbrev pub Confirmed : {B : Type 0} → (B → Bool) → (B → List ℕ → List ℕ → B → Type 0)
    → Listening B → List ℕ → List ℕ → Listening B → Type 0
Confirmed lost asks_all old request heard new =
    Hearing.Hears lost asks_all request old.bus old.wildcard heard new.bus new.wildcard

-- A REQUEST AND ITS ANSWER: what the bus does, until the search is given up; then nothing goes out.
pub record Hears {B : Type 0} (lost : B → Bool)
    (asks : Listening B → List ℕ → List ℕ → Listening B → Type 0)
    (old : Listening B) (request answer : List ℕ) (new : Listening B) : Type 0 where
  pub untouched : is_given_up old.left ≡ true → new ≡ old
  pub silence : IsSilent (is_given_up new.left || lost new.bus) answer
  pub asked : is_given_up old.left ≡ false → (heard : List ℕ) × asks old request heard new
      × (new.left ≡ left_with new.wildcard.others.items heard old.left) × (answer ≡ heard_as new.left heard)
