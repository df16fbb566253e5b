-- A bus with an observer: the bus does what it does without one, and the observer sees it (this product).
use Rattle.std.specs.Prelude.{◌≡◌, ℕ, Bool, false, List}
use Rattle.mbdc_bus.specs.declared.trace.observed.Observed.{Observed}
use Rattle.mbdc_bus.specs.declared.trace.observer.Pair.{Pair}

-- the bus sends the request, which is seen unless the bus was lost
pub record Sends {B O : Type 0} (lost : B → Bool) (sends : B → List ℕ → B → Type 0)
    (sees : O → List ℕ → O → Type 0) (old : Observed B O) (request : List ℕ)
    (new : Observed B O) : Type 0 where
  pub sent : sends old.bus request new.bus
  pub seen : lost old.bus ≡ false → sees old.observer request new.observer

-- the bus gives the answer, which is seen unless the bus was lost
pub record Gives {B O : Type 0} (lost : B → Bool) (gives : B → List ℕ → B → Type 0)
    (sees : O → List ℕ → O → Type 0) (old : Observed B O) (answer : List ℕ)
    (new : Observed B O) : Type 0 where
  pub given : gives old.bus answer new.bus
  pub seen : lost old.bus ≡ false → sees old.observer answer new.observer

-- the bus waits, and the observer sees nothing
pub record Unseen {B O : Type 0} (goes : B → B → Type 0) (old new : Observed B O) : Type 0 where
  pub went : goes old.bus new.bus
  pub same : new.observer ≡ old.observer

-- each of two observers sees the bytes
pub record BothSee {A B : Type 0} (first : A → List ℕ → A → Type 0)
    (second : B → List ℕ → B → Type 0) (old : Pair A B) (bytes : List ℕ) (new : Pair A B)
    : Type 0 where
  pub first_sees : first old.first bytes new.first
  pub second_sees : second old.second bytes new.second
