-- The invariant of a running session and its meter after each event of a world.
use Rattle.std.specs.Prelude.{◌≡◌, ℕ, zero, suc, ◌+◌, ◌%◌, ◌≤◌, ◌⊎◌, Bool, true, List, length, take}
use Rattle.std.specs.Prelude.{Option, Some, None, ◌==◌, slice_get}
use Rattle.std.specs.List.{AllByRecursion}
use Rattle.dc_readout.specs.declared.stage.Stage.{Stage}
use Rattle.dc_readout.specs.declared.stage.Stage.TheVariants.{Resets, Selects, Requests, Pending}
use Rattle.dc_readout.specs.declared.stage.Stage.TheVariants.{Ended}
use Rattle.dc_readout.specs.Meter.{Meter, Position}
use Rattle.dc_readout.specs.World.{World, Running, IsWhole, more_after}

-- the frame count bit of the request after this many acknowledged telegrams, and the one before it
abbrev pub bit_after : ℕ → Bool
bit_after n = n % 2 == 0

abbrev pub bit_before : ℕ → Option Bool
bit_before zero = None
bit_before (suc n) = Some (bit_after n)

-- the meter has advanced on the request that is out, or hasn't yet
abbrev pub HasGoneOn : ℕ → Position → Type 0
HasGoneOn n p = (p.place ≡ n + 1) × (p.bit ≡ Some (bit_after n))

abbrev pub HasNotGoneOn : ℕ → Position → Type 0
HasNotGoneOn n p = (p.place ≡ n) × (p.bit ≡ bit_before n)

abbrev pub IsInStep : Stage → ℕ → Position → Type 0
IsInStep Resets n p = n ≡ 0
IsInStep Selects n p = n ≡ 0
IsInStep Requests n p = HasNotGoneOn n p ⊎ HasGoneOn n p
IsInStep (Pending more) n p = HasGoneOn n p
IsInStep Ended n p = ⊥

-- from the first request on, the meter of a session by secondary addressing is selected, and no
-- other is
abbrev pub IsAlone : Stage → Option ℕ → ℕ → List Position → Type 0
IsAlone Requests None place positions =
    (j : ℕ) (p : Position) → slice_get positions j ≡ Some p → p.selected ≡ (j == place)
IsAlone (Pending more) None place positions =
    (j : ℕ) (p : Position) → slice_get positions j ≡ Some p → p.selected ≡ (j == place)
IsAlone Selects (Some address) place positions = ⊥
IsAlone stage address place positions = Unit {0}

-- the body that isn't committed yet is the next one
abbrev pub IsNextBody : Stage → ℕ → Option (List ℕ) → List (List ℕ) → Type 0
IsNextBody (Pending more) n (Some body) bodies =
    (slice_get bodies n ≡ Some body) × (more_after body ≡ more)
IsNextBody (Pending more) n None bodies = ⊥
IsNextBody stage n waiting bodies = waiting ≡ None

pub record Agrees (meters : List Meter) (w : World) (r : Running) : Type 0 where
  pub meter : Meter
  pub position : Position
  pub stands : (slice_get meters r.meter ≡ Some meter)
      × (slice_get w.positions r.meter ≡ Some position)
  pub whom : (r.session.meter ≡ meter.identity) × (r.session.address ≡ meter.address)
  pub step : IsInStep r.session.stage r.session.settled position
  pub came : r.session.settled ≤ length meter.bodies
  pub follow : AllByRecursion (λ body. more_after body ≡ true) (take r.session.settled meter.bodies)
  pub kept : 1 ≤ r.session.settled
      → slice_get w.parts_open r.meter ≡ Some (take r.session.settled meter.bodies)
  pub waits : IsNextBody r.session.stage r.session.settled r.waiting meter.bodies
  pub alone : IsAlone r.session.stage r.session.address r.meter w.positions

-- of every world: `Stop` and failure drop the session, and nothing is claimed of a meter without
-- one
pub record IsRegularWorld (meters : List Meter) (w : World) : Type 0 where
  pub counted : (length w.positions ≡ length meters) × (length w.parts_open ≡ length meters)
  pub whole : AllByRecursion (IsWhole meters) w.held
  pub agrees : (r : Running) → w.running ≡ Some r → Agrees meters w r
