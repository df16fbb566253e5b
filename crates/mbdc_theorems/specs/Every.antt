-- Every meter is read (this product): a poll goes through the meters of the register, and where its
-- lines carry what is said and nothing is wanting, each has one reading more.
use Rattle.std.specs.Prelude.{◌≡◌, ℕ, ◌+◌, ◌-◌, ◌<◌, ◌≤◌, ◌^◌, min, Bool, false, Option, None, Some, List, []}
use Rattle.std.specs.Prelude.{◌∷◌, ◌++◌, take, length, slice_index_or, sum_by}
use Rattle.std.specs.List.{AllByRecursion}
use Rattle.std.specs.List.Sorted.{IsStrictlySortedBy}
use Rattle.std.specs.Map.{keys_of}
use Rattle.dc_address.specs.Identity.{identity_cmp}
use Rattle.dc_address.specs.declared.identity.Identity.{Identity}
use Rattle.mbdc_change.specs.Size.{size_of}
use Rattle.mbdc_change.specs.State.{State, MeterRow, row_of}
use Rattle.mbdc_change.specs.Fields.{end_of_numbers}
use Rattle.dc_core.specs.Core.{Core, opened}
use Rattle.dc_core.specs.Transcript.{leads}
use Rattle.dc_sectors.specs.Disk.{Image, IsImage}
use Rattle.dc_sectors.specs.declared.device.Disk.{Ghosts}
use Rattle.mbdc_log.specs.Halves.{half_of}
use Rattle.dc_core.specs.PendingImages.{Stands}
use Rattle.dc_readout.specs.Meter.{Meter}
use Rattle.mbdc_poll.specs.Bus.{Bus}
use Rattle.mbdc_poll.specs.Happening.{Happening, does, tells, happened_events, happened_on, happened_turns}
use Rattle.mbdc_poll.specs.ImagePoll.{ImageTurned, PlanPolled}
use Rattle.mbdc_poll.specs.Planned.{asked_for, has_bus, queue_on, refused_count, refused_events}
use Rattle.mbdc_poll.specs.Queue.{GoesWell, read_in}
use Rattle.mbdc_poll.specs.Round.{HasFew, LineGoes, lates_from, meters_left, most_lines}
use Rattle.mbdc_poll.specs.Telling.{TakesAll}
use Rattle.mbdc_poll.specs.declared.event.Event.{Event as Told}
use Rattle.mbdc_poll.specs.declared.event.Event.TheVariants.{Read as was_read, End as has_ended}
use Rattle.mbdc_poll.specs.declared.outcome.Outcome.{Outcome}
use Rattle.mbdc_poll.specs.declared.station.Station.{Station}
use Rattle.mbdc_shown.specs.Room.{bytes_a_reading, readings_left}
use Rattle.mbdc_theorems.specs.Beside.{HasRead, bus_at_first}
use Rattle.mbdc_theorems.specs.Readout.{IsThere, room_for}
use Rattle.mbdc_theorems.specs.Carried.{Wire, IsCarried, NothingIsWanting}

-- ---- the premises

-- A meter of the register is on its line, with its parts to read, and its primary address is that of
-- its row.
pub record IsWired (state : State) (wire : Wire) (identity : Identity) : Type 0 where
  pub place : ℕ
  pub meter : Meter
  pub row : MeterRow
  pub who : meter.identity ≡ identity
  pub there : IsThere wire.meters wire.positions place meter (wire.parts identity)
  pub registered : row_of identity state ≡ Some row
  pub address : row.address ≡ meter.address

-- THE LINE IS IN ORDER: each meter of its queue is on it, and it carries what is said. Its queue
-- has no more meters than a register.
pub record IsInOrder {B : Type 0} (g : Bus B) (tries line : ℕ) (state : State) (wire : Wire)
    (old new : Station B) (happened : List Happening)
    (goes : LineGoes g tries line old new (happened_on line happened)) : Type 0 where
  pub few : HasFew old
  pub counted : length wire.positions ≡ length wire.meters
  pub wired : AllByRecursion (IsWired state wire) old.left.now
  pub carried : IsCarried wire.meters (bus_at_first wire.positions) goes.talk

abbrev pub flat_in : Option MeterRow → List ℕ
flat_in None = []
flat_in (Some row) = row.flat

-- the size in the register of what is to be read of a meter
abbrev pub room_of : State → Wire → Identity → ℕ
room_of state wire meter = room_for (flat_in (row_of meter state)) (wire.parts meter)

-- and of all meters that are left on these lines, of which the first has this number
abbrev pub room_on : {B : Type 0} → State → (ℕ → Wire) → ℕ → List (Station B) → ℕ
room_on state wires line [] = 0
room_on state wires line (station ∷ stations) =
    sum_by (room_of state (wires line)) station.left.now + room_on state wires (line + 1) stations

-- THE REGISTER HAS ROOM for one reading of each meter that is left on these lines, and a serial.
pub record HasRoom {B : Type 0} (budget : ℕ) (state : State) (wires : ℕ → Wire)
    (stations : List (Station B)) : Type 0 where
  pub room : size_of state + room_on state wires 1 stations ≤ budget
  pub serials : state.next_serial + meters_left stations ≤ end_of_numbers

-- ---- the conclusion

-- This meter of the line has one reading more than before, in its flat, with its parts whole and in
-- order, and none of its parts is open.
pub record IsRead (before now : State) (wire : Wire) (identity : Identity) : Type 0 where
  pub wired : IsWired before wire identity
  pub read : HasRead identity wired.row (wire.parts identity) before now

-- Where it is told that a meter was read, the serial that is told is that of the new reading.
abbrev pub IsOfNew : State → State → Wire → Happening → Type 0
IsOfNew before now wire (does turn) = Unit {0}
IsOfNew before now wire (tells line (was_read meter serial parts last)) =
    (new : IsRead before now wire meter) × (serial ≡ new.read.serial)
IsOfNew before now wire (tells line told) = Unit {0}

-- THE LINE IS READ: what was read on it is its queue, in order, each meter of it is read, and what
-- is told is of these readings.
pub record LineIsRead (before now : State) (wire : Wire) (queue : List Identity)
    (happened : List Happening) : Type 0 where
  pub in_order : read_in happened ≡ queue
  pub each : AllByRecursion (IsRead before now wire) queue
  pub told : AllByRecursion (IsOfNew before now wire) happened

-- EVERY METER IS READ, line by line, and that is committed: where the disk kept the disk model,
-- each image that it may be left as stands for it. No readout fails. Told are the meters that are
-- refused before, by name, then what happens, the late answers and the counts: as many are read as
-- the queues have, and as many failed as were refused.
pub record EachIsRead {D B : Type 0} (g : Ghosts D) (origin new : D) (bus : Bus B)
    (took : List Told → Type 0) (state : State) (only : List Identity) (buses : List B)
    (olds news : List (Station B)) (wires : ℕ → Wire) (outcome : Outcome)
    (happened : List Happening) (now : Core) : Type 0 where
  pub lines : (k : ℕ) (d : Station B) → k < length olds
      → LineIsRead state now.committed (wires (k + 1))
      (queue_on state only (k + 1) (bus.lost (slice_index_or olds k d).bus))
      (happened_on (k + 1) happened)
  pub committed : now.pending ≡ []
  pub running : now.stopped ≡ false
  pub stored : g.keeps origin → (image : Image) → IsImage (g.choices new) image
      → Stands (half_of g new) now.committed image
  pub well : AllByRecursion GoesWell happened
  pub told : took (refused_events (has_bus bus.lost (take most_lines buses)) state
      (asked_for only state) ++ (happened_events happened ++ (lates_from bus 1 news
      ++ has_ended outcome.read outcome.failed ∷ [])))
  pub read : outcome.read ≡ meters_left olds
  pub failed : outcome.failed ≡ min (2 ^ 32 - 1)
      (refused_count (has_bus bus.lost (take most_lines buses)) state (asked_for only state))
  pub fault : outcome.fault ≡ None

-- EVERY METER IS READ. A poll of an image did this plan. No telegram was refused for want of memory,
-- and no commit failed. The register has room for what is to be read. Each line is in order. The
-- register's meters ascend, as they always do. Then each is read.
abbrev pub EveryMeterIsRead : {D B T N : Type 0} → Ghosts D → Bus B → (T → ℕ → T → Type 0)
    → (T → Bool → T → Type 0) → (T → T → Type 0) → (N → Told → N → Type 0) → Type 0
EveryMeterIsRead {D} {B} {T} {N} g bus told passes warned takes =
    (disk new : D) (buses : List B) (only : List Identity) (tries : ℕ) (first last : T)
    (old fresh : N) (outcome : Outcome) (wires : ℕ → Wire)
    (poll : ImageTurned g (λ core happened. PlanPolled bus told passes warned takes buses only tries
    first last old fresh outcome core happened) disk new)
    → IsStrictlySortedBy identity_cmp (keys_of poll.state.meters)
    → NothingIsWanting poll.happens.happened
    → HasRoom poll.first.house.budget poll.state wires poll.happens.are_such.olds
    → ((k : ℕ) (d : Station B) (low : k < length poll.happens.are_such.olds)
    → IsInOrder bus tries (k + 1) poll.state (wires (k + 1))
    (slice_index_or poll.happens.are_such.olds k d) (slice_index_or poll.happens.are_such.news k d)
    poll.happens.happened (poll.happens.are_such.polls.polled.polls.rounds.goes k d low))
    → EachIsRead g poll.first.store.disk new bus (TakesAll takes old fresh) poll.state only buses
    poll.happens.are_such.olds poll.happens.are_such.news wires outcome
    poll.happens.happened (leads (opened poll.state) (happened_turns poll.happens.happened))

-- What the row ROOM of `status` says of a poll (this product).

-- What is to be read of each meter that is left on these lines takes no more than a reading that is
-- held, as the row ROOM counts: the size of the register apart from its fixed part, for each.
abbrev pub AreUsual : {B : Type 0} → State → (ℕ → Wire) → ℕ → List (Station B) → Type 0
AreUsual state wires line [] = Unit {0}
AreUsual state wires line (station ∷ stations) =
    AllByRecursion (λ (meter : Identity).
    room_of state (wires line) meter ≤ bytes_a_reading state) station.left.now
    × AreUsual state wires (line + 1) stations

-- THE ROW ROOM SUFFICES: a register whose row ROOM has at least as many readings as meters are left
-- has room for them, where their readings are of the usual size and serials are left.
abbrev pub RoomRowSuffices : {B : Type 0} → Bus B → Type 0
RoomRowSuffices {B} g = (budget readings : ℕ) (state : State) (wires : ℕ → Wire)
    (stations : List (Station B))
    → size_of state ≤ budget
    → readings_left budget state ≡ Some readings
    → meters_left stations ≤ readings
    → AreUsual state wires 1 stations
    → state.next_serial + meters_left stations ≤ end_of_numbers
    → HasRoom budget state wires stations
