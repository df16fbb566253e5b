-- A whole bus over its two halves: a request, and waiting until its answer is complete (this
-- product).
use Rattle.std.specs.Prelude.{◌≡◌, ℕ, true, false, List, [], ◌∷◌}
use Rattle.mbdc_bus.specs.Halves.{Runs}
use Rattle.mbdc_bus.specs.declared.both.Both.{Both}
use Rattle.mbdc_bus.specs.declared.half.HalfBus.{Ghosts as HalfGhosts}

-- the request goes out, and its answer is the next that the bus returns
pub record Asked {B : Type 0} (sends : B → List ℕ → B → Type 0) (half : HalfGhosts B) (old : B)
    (request answer : List ℕ) (new : B) : Type 0 where
  pub between : B
  pub sent : sends old request between
  pub heard : Runs half.gives half.waits between (answer ∷ []) new

-- A lost bus is untouched. Otherwise the request goes out, and its answer is the next that the bus
-- returns. If the bus is lost by it, or was, the answer is silence.
pub record BothAsk {B P : Type 0} (sends : B → List ℕ → B → Type 0) (half : HalfGhosts B)
    (old : Both B P) (request answer : List ℕ) (new : Both B P) : Type 0 where
  pub untouched : half.lost old.bus ≡ true → new ≡ old
  pub silence : half.lost new.bus ≡ true → answer ≡ []
  pub asked : half.lost old.bus ≡ false → Asked sends half old.bus request answer new.bus
