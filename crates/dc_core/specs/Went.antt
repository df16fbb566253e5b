-- Turns of a concentrator that were run (this product).
use Rattle.std.specs.Prelude.{◌≡◌, ℕ, List, [], ◌∷◌, map}
use Rattle.dc_sectors.specs.declared.device.Disk.{Ghosts}
use Rattle.mbdc_change.specs.State.{State}
use Rattle.dc_core.specs.Event.{Event, Answer}
use Rattle.dc_core.specs.Core.{opened}
use Rattle.dc_core.specs.Images.{Machine, IsAt}
use Rattle.dc_core.specs.Run.{Ran}
use Rattle.dc_core.specs.Transcript.{Turn, leads, IsChain}

-- This stands BEHIND ANY RUN: from whatever state the concentrator was opened with, and whatever turns led to where
-- it is. What the image was is known where the disk `origin` keeps the rule: the disk as the opening left it.
abbrev pub BehindAnyRun : {D : Type 0} → Ghosts D → Machine D → (D → State → List Turn → Type 0)
    → Type 0
BehindAnyRun {D} g first stands =
    (origin : D) (state : State) (before : List Turn)
    → IsChain first.house.budget (opened state) before
    → IsAt g origin first (leads (opened state) before) → stands origin state before

-- THESE TURNS ARE RUN, after the turns that were before: they are those of a run of their events.
pub record Went {D : Type 0} (g : Ghosts D) (origin : D) (budget : ℕ)
    (state : State) (before turns : List Turn) (first new : Machine D) : Type 0 where
  pub ran : Ran g origin budget state before
      (map (λ (t : Turn). t.0) turns) (λ text. Unit {0}) first new
  pub turns_are : ran.turns ≡ turns

-- One event is run, and its answer is such a one.
pub record TurnWent {D : Type 0} (g : Ghosts D) (origin : D) (budget : ℕ)
    (state : State) (before : List Turn) (event : Event) (such : Answer → Type 0)
    (first new : Machine D) : Type 0 where
  pub answer : Answer
  pub is_such : such answer
  pub went : Went g origin budget state before ((event, answer) ∷ []) first new

-- Some turns are run, and they are such.
pub record TurnsWent {D : Type 0} (g : Ghosts D) (origin : D) (budget : ℕ)
    (state : State) (before : List Turn) (such : List Turn → Type 0)
    (first new : Machine D) : Type 0 where
  pub turns : List Turn
  pub are_such : such turns
  pub went : Went g origin budget state before turns first new
