-- Which buses a poll waits for (this product): those of the lines that are awaited, in the order of the lines.
use Rattle.std.specs.Prelude.{◌≡◌, Bool, true, false, List, [], ◌∷◌}
use Rattle.mbdc_poll.specs.Waiting.{is_awaited}
use Rattle.mbdc_poll.specs.declared.station.Station.{Station}

module _ {B W : Type 0} (adds : W → B → W → Type 0) where
  -- the bus of this line is added, or nothing is done
  abbrev pub AddsOne : (awaited : Bool) → B → W → W → Type 0
  AddsOne true bus old new = adds old bus new
  AddsOne false bus old new = new ≡ old

  abbrev pub AddsAwaited : List (Station B) → W → W → Type 0
  AddsAwaited [] old new = new ≡ old
  AddsAwaited (station ∷ stations) old new = (mid : W)
      × AddsOne (is_awaited station) station.bus old mid × AddsAwaited stations mid new

  -- THE LINES THAT ARE AWAITED ARE WAITED FOR: their buses are added, and there is one wait.
  abbrev pub AreWaitedFor : (waited : W → W → Type 0) → List (Station B) → W → W → Type 0
  AreWaitedFor waited stations old new =
      (added : W) × AddsAwaited stations old added × waited added new
