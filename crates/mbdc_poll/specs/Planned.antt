-- Which meters are read on which line, and which are refused before (this product).
use Rattle.std.specs.Prelude.{◌≡◌, ℕ, ◌+◌, ◌-◌, ◌<◌, Bool, true, false, not, ◌&&◌, ◌||◌}
use Rattle.std.specs.Prelude.{◌==◌, List, [], ◌∷◌, map, filter, flat_map, length, take, slice_get}
use Rattle.std.specs.Prelude.{slice_index_or, if◌then◌else◌, Option, None, Some, is_some}
use Rattle.std.specs.List.{list_any}
use Rattle.std.specs.Map.{keys_of}
use Rattle.std.specs.Ordering.{is_eq}
use Rattle.dc_address.specs.Identity.{identity_cmp}
use Rattle.dc_address.specs.declared.identity.Identity.{Identity}
use Rattle.mbdc_change.specs.State.{State, MeterRow, row_of}
use Rattle.dc_core.specs.declared.fault.StartFault.{StartFault}
use Rattle.dc_core.specs.declared.fault.StartFault.TheVariants.{NoLine, Unknown}
use Rattle.mbdc_poll.specs.declared.event.Event.{Event as Told}
use Rattle.mbdc_poll.specs.declared.event.Event.TheVariants.{Refused as was_refused}
use Rattle.mbdc_poll.specs.Round.{IsFresh, most_lines}
use Rattle.mbdc_poll.specs.declared.end.Refusal.TheVariants.{Start}
use Rattle.mbdc_poll.specs.declared.station.Station.{Station}

-- ---- the meters of a line

-- if none is named, all are wanted
abbrev pub is_wanted : List Identity → Identity → Bool
is_wanted only meter = length only == 0 || list_any (λ named. is_eq (identity_cmp named meter)) only

abbrev pub is_queued : ℕ → List Identity → (Identity × MeterRow) → Bool
is_queued line only row = row.1.line == line && is_wanted only row.0

-- the registered meters of a line that are wanted, in order of identity, each once
abbrev pub wanted_on : State → List Identity → ℕ → List Identity
wanted_on state only line = map (λ row. row.0) (filter (is_queued line only) state.meters)

-- the queue of a line: empty if its bus is lost
abbrev pub queue_on : State → List Identity → ℕ → Bool → List Identity
queue_on state only line true = []
queue_on state only line false = wanted_on state only line

-- ---- the meters that can't be read

-- The meters that are to be read: those that are named, or if none is named all of the register, in order of identity.
abbrev pub asked_for : List Identity → State → List Identity
asked_for only state = if length only == 0 then keys_of state.meters else only

abbrev pub is_live : {B : Type 0} → (B → Bool) → Option B → Bool
is_live lost None = false
is_live lost (Some bus) = not (lost bus)

-- whether a line has a bus that isn't lost
abbrev pub has_bus : {B : Type 0} → (B → Bool) → List B → ℕ → Bool
has_bus lost buses line = is_live lost (slice_get buses (line - 1))

abbrev pub refusal_by : Bool → Option StartFault
refusal_by true = None
refusal_by false = Some NoLine

-- why a meter can't be read, before it is started: it isn't registered, or its line has no bus
abbrev pub refusal_at : (ℕ → Bool) → Option MeterRow → Option StartFault
refusal_at connected None = Some Unknown
refusal_at connected (Some row) = refusal_by (connected row.line)

abbrev pub refusal_of : (ℕ → Bool) → State → Identity → Option StartFault
refusal_of connected state meter = refusal_at connected (row_of meter state)

abbrev pub refusal_event : Identity → Option StartFault → List Told
refusal_event meter None = []
refusal_event meter (Some fault) = was_refused meter (Start fault) ∷ []

-- an event for each of these meters that can't be read, in order
abbrev pub refused_events : (ℕ → Bool) → State → List Identity → List Told
refused_events connected state meters =
    flat_map (λ meter. refusal_event meter (refusal_of connected state meter)) meters

-- number of these events
abbrev pub refused_count : (ℕ → Bool) → State → List Identity → ℕ
refused_count connected state meters =
    length (filter (λ meter. is_some (refusal_of connected state meter)) meters)

-- ---- the lines

-- The line with this number: its queue, none of whose meters was started. Where its bus is lost, the event of
-- that counts as given.
pub record IsPlanned {B : Type 0} (lost : B → Bool) (state : State) (only : List Identity)
    (line : ℕ)
    (station : Station B) : Type 0 where
  pub queue : station.left.now ≡ queue_on state only line (lost station.bus)
  pub said : station.said ≡ lost station.bus
  pub fresh : IsFresh station

-- the queues of the lines of these buses, line k + 1 at k
abbrev pub AreQueues : {B Q : Type 0} → (Q → List Identity) → (B → Bool) → State → List Identity
    → List B → List Q → Type 0
AreQueues {B} {Q} items lost state only buses queues = (k : ℕ) (q : Q) (b : B) → k < length queues
    → items (slice_index_or queues k q)
    ≡ queue_on state only (k + 1) (lost (slice_index_or buses k b))

-- each station has the queue of its place
pub record HasQueue {B : Type 0} (lost : B → Bool) (queue : List Identity)
    (station : Station B) : Type 0 where
  pub queue_is : station.left.now ≡ queue
  pub said : station.said ≡ lost station.bus
  pub fresh : IsFresh station

abbrev pub AreStations : {B Q : Type 0} → (Q → List Identity) → (B → Bool) → List Q
    → List (Station B) → Type 0
AreStations {B} {Q} items lost queues stations =
    (k : ℕ) (q : Q) (d : Station B) → k < length stations
    → HasQueue lost (items (slice_index_or queues k q)) (slice_index_or stations k d)

-- Line k + 1 is that of the station at k: the first eight buses in order, each with the queue of its line.
pub record ArePlanned {B : Type 0} (lost : B → Bool) (state : State) (only : List Identity)
    (buses : List B)
    (stations : List (Station B)) : Type 0 where
  pub buses_are : map (λ (s : Station B). s.bus) stations ≡ take most_lines buses
  pub each : (k : ℕ) (d : Station B) → k < length stations
      → IsPlanned lost state only (k + 1) (slice_index_or stations k d)
