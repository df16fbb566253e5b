-- A house: a concentrator and the meters on its bus lines, in all of its lives (this product). The meters are those of
-- dc_readout: frame count bit (EN 13757-2), selection (EN 13757-3 until 2013, since then EN 13757-7).
--
-- WHAT THE DEFINITIONS SAY OF THE WORLD, and where:
--   a readout begins anew        dc_readout Meter: with a reset or a selection
--   nothing comes from before it IsOnBuses: a start discards what was received until then
--   an answer is taken once      IsOnBuses: an answer that is taken no longer waits
--   all meters or none           IsExchanged: a request is seen by all meters of its line or by none
--   a reply to the last request  IsExchanged: what is received is no frame, or the reply of a meter that saw it
--   no restart in a readout      House: only a line without a readout gets other meters, or restarted ones
use Rattle.std.specs.Prelude.{◌≡◌, ℕ, Bool, true, ◌==◌, if◌then◌else◌, List, [], ◌∷◌, ◌++◌, map, Option, Some}
use Rattle.std.specs.Prelude.{None, Ok, slice_get, ◌+◌, ◌≤◌, length, ◌⊎◌}
use Rattle.std.specs.List.{AllByRecursion, zip}
use Rattle.dc_linkframe.specs.Frame.{FrameSeen}
use Rattle.dc_linkframe.specs.Reading.{frame_of}
use Rattle.dc_address.specs.declared.identity.Identity.{Identity}
use Rattle.dc_readout.specs.Meter.{answer_to, moved_by, Meter, Position}
use Rattle.mbdc_bus.specs.WorldLine.{seen_by}
use Rattle.dc_readout.specs.Standing.{Standing}
use Rattle.mbdc_change.specs.State.{State, empty_state, MeterRow, PartRow, ReadingRow, row_of}
use Rattle.mbdc_change.specs.declared.change.Change.{Change}
use Rattle.mbdc_change.specs.History.{after}
use Rattle.dc_core.specs.Core.{opened, session_of, Core}
use Rattle.dc_core.specs.Event.{Event, Answer, starts, asks, hears, started, asked, heard}
use Rattle.dc_core.specs.Step.{May}
use Rattle.dc_core.specs.Transcript.{Turn, leads}
use Rattle.dc_core.specs.Headline.{IsPrefix, accepted}
use Rattle.dc_records.specs.Telegram.{Parsed, telegram_at}
use Rattle.dc_readout.specs.Summary.{Summary, asked_by}
use Rattle.dc_readout.specs.World.{whole_readout, heard_in, positions_after}
use Rattle.dc_core.specs.Lines.{is_line}
use Rattle.dc_readout.specs.declared.world.event.Outcome.{Outcome}

-- ---- the bus lines

-- Whether the meter of this identity may send this body in this place of its readout, from 0. Several bodies may be
-- possible in a place, so values may change from one request to its repeat.
abbrev pub Sends : Type 0
Sends = Identity → ℕ → List ℕ → Bool

-- a bus line: its meters at their positions, and the bytes received after the last request, until they are taken
pub record Bus : Type 0 where
  pub meters : List Standing
  pub answer : Option (List ℕ)

-- all bus lines, by number
abbrev pub Buses : Type 0
Buses = ℕ → Bus

-- one line is replaced
abbrev pub put_bus : ℕ → Bus → Buses → Buses
put_bus line bus buses = λ other. if other == line then bus else buses other

-- no answer waits to be taken
abbrev pub quiet : Bus → Bus
quiet bus = record bus { answer = None }

-- every body of these meters is one that its meter may send in that place
abbrev pub HaveBodies : Sends → List Standing → Type 0
HaveBodies sends meters =
    (i k : ℕ) (x : Standing) (body : List ℕ) → slice_get meters i ≡ Some x
    → slice_get x.meter.bodies k ≡ Some body → sends x.meter.identity k body ≡ true

-- the same meter at the same position, perhaps with other bodies
pub record IsRenewed (old new : Standing) : Type 0 where
  pub identity : new.meter.identity ≡ old.meter.identity
  pub address : new.meter.address ≡ old.meter.address
  pub position : new.position ≡ old.position

-- each of the new meters is one of the old in its place, perhaps with other bodies
abbrev pub AreRenewed : List Standing → List Standing → Type 0
AreRenewed old new =
    (i : ℕ) (x : Standing) → slice_get new i ≡ Some x
    → (y : Standing) × (slice_get old i ≡ Some y) × IsRenewed y x

-- ---- a request

-- one of these meters, which have seen the request, replies this
pub record IsReply (request : FrameSeen) (meters : List Standing) (reply : FrameSeen) : Type 0 where
  pub place : ℕ
  pub one : Standing
  pub there : slice_get meters place ≡ Some one
  pub answers : answer_to request one.meter one.position ≡ Some reply

-- all meters of the line have seen the request, and these bytes were received
abbrev pub all_seen : FrameSeen → Bus → List ℕ → Bus
all_seen request old bytes =
    record { meters = map (seen_by request) old.meters; answer = Some bytes }

-- A REQUEST ON A BUS LINE AND WHAT IS RECEIVED: no meter sees the request, or all do. The bytes received are no frame,
-- or the reply of a meter that saw it.
pub data IsExchanged (request : FrameSeen) (old new : Bus) : Type 0 where
  not_seen : (bytes : List ℕ) → frame_of bytes ≡ None
      → new ≡ record old { answer = Some bytes } → IsExchanged request old new
  not_heard : (bytes : List ℕ) → frame_of bytes ≡ None
      → new ≡ all_seen request old bytes → IsExchanged request old new
  reply_heard : (bytes : List ℕ) (reply : FrameSeen) → frame_of bytes ≡ Some reply
      → IsReply request (map (seen_by request) old.meters) reply
      → new ≡ all_seen request old bytes → IsExchanged request old new

-- the bytes of a request are sent on the line
pub record IsSent (bytes : List ℕ) (old new : Bus) : Type 0 where
  pub request : FrameSeen
  pub frame_is : frame_of bytes ≡ Some request
  pub exchanged : IsExchanged request old new

-- WHAT A TURN DOES ON THE BUS LINES. A start discards what was received before. A request is sent on its line. An
-- answer that the concentrator takes is what was received after the last request, and is taken once; one that it
-- refuses may be offered again. No other turn touches a bus line.
abbrev pub IsOnBuses : Event → Answer → Buses → Buses → Type 0
IsOnBuses (starts line meter) (started (Ok done)) old new =
    new ≡ put_bus line (quiet (old line)) old
IsOnBuses (asks line) (asked (Some bytes)) old new =
    (bus : Bus) × IsSent bytes (old line) bus × (new ≡ put_bus line bus old)
IsOnBuses (hears line moment bytes) (heard (Ok answer)) old new =
    ((old line).answer ≡ Some bytes) × (new ≡ put_bus line (quiet (old line)) old)
IsOnBuses event answer old new = new ≡ old

-- ---- lives

-- A HOUSE that may be reached from a formatted image: the state with which this life of the concentrator began, its
-- turns until now, and the bus lines.
--   formatted      the first life begins, with any meters on any lines
--   goes_on        a call, with an answer that the state allows
--   opens_again    a crash at any moment, and an opening: a prefix of what was accepted is held, no readout goes on,
--                  and the meters stay as they are
--   time_passes    the meters of a line have other values
--   meters_change  a line without a readout has other meters, or restarted ones
pub data House (budget : ℕ) (sends : Sends) : State → List Turn → Buses → Type 0 where
  formatted : {state : State} {turns : List Turn} {buses : Buses}
      → state ≡ empty_state → turns ≡ []
      → ((line : ℕ) → HaveBodies sends (buses line).meters)
      → House budget sends state turns buses
  goes_on : {state : State} {turns all : List Turn} {old new : Buses}
      (event : Event) (answer : Answer)
      → House budget sends state turns old
      → May budget (leads (opened state) turns) event answer
      → IsOnBuses event answer old new
      → all ≡ turns ++ (event, answer) ∷ []
      → House budget sends state all new
  opens_again : {state found : State} {turns none : List Turn} {buses : Buses}
      (prefix : List Change)
      → House budget sends state turns buses
      → IsPrefix prefix (accepted state turns)
      → found ≡ after state prefix → none ≡ []
      → House budget sends found none buses
  time_passes : {state : State} {turns : List Turn} {old new : Buses}
      (line : ℕ) (meters : List Standing)
      → House budget sends state turns old
      → AreRenewed (old line).meters meters → HaveBodies sends meters
      → new ≡ put_bus line (record (old line) { meters = meters }) old
      → House budget sends state turns new
  meters_change : {state : State} {turns : List Turn} {old new : Buses}
      (line : ℕ) (meters : List Standing)
      → House budget sends state turns old
      → session_of (leads (opened state) turns) line ≡ None → HaveBodies sends meters
      → new ≡ put_bus line (record (old line) { meters = meters }) old
      → House budget sends state turns new

-- Each reading is one whole readout of the meter that it names (this product).

-- the bodies of the telegrams of a reading, or of an open readout
abbrev pub bodies_of : List PartRow → List (List ℕ)
bodies_of parts = map (λ (part : PartRow). part.body) parts

-- each body is one that the meter may send in that place
abbrev pub AreSentBy : Sends → Identity → List PartRow → Type 0
AreSentBy sends meter parts =
    (k : ℕ) (body : List ℕ) → slice_get (bodies_of parts) k ≡ Some body
    → sends meter k body ≡ true

-- A WHOLE READING: each body is one that the meter it names may send in that place of a readout, from the first to the
-- first after which no more follow, in order, each once.
pub record IsWholeReading (sends : Sends) (reading : ReadingRow) : Type 0 where
  pub sent : AreSentBy sends reading.meter reading.parts
  pub whole : whole_readout (bodies_of reading.parts) ≡ Some (bodies_of reading.parts)

-- each reading of the state is whole
abbrev pub AreWhole : Sends → State → Type 0
AreWhole sends state = AllByRecursion (IsWholeReading sends) state.readings

-- THE PREMISE: a telegram that a meter sends carries that meter's identity.
abbrev pub SpeakForThemselves : Sends → Type 0
SpeakForThemselves sends =
    (meter : Identity) (k : ℕ) (body : List ℕ) (telegram : Parsed) → sends meter k body ≡ true
    → telegram_at body ≡ Ok telegram → telegram.header.identity ≡ meter

-- ---- the theorems

-- EACH READING IS WHOLE: of the state with which a life begins, and of every state that may be found after a crash at
-- any moment of that life.
abbrev pub EachReadingIsWhole : Type 0
EachReadingIsWhole = (budget : ℕ) (sends : Sends) (state : State) (turns : List Turn)
    (buses : Buses) (prefix : List Change)
    → SpeakForThemselves sends → House budget sends state turns buses
    → IsPrefix prefix (accepted state turns) → AreWhole sends (after state prefix)

-- this many telegrams of the meter are open in the register, each one that it may send in its place
pub record HasOpen (sends : Sends) (meter : Identity) (count : ℕ) (state : State) : Type 0 where
  pub row : MeterRow
  pub found : row_of meter state ≡ Some row
  pub counted : length row.parts ≡ count
  pub sent : AreSentBy sends meter row.parts

-- A METER GOES ON FROM WHAT IS COMMITTED. If the request that is due on a line makes the meter of its session discard
-- its k-th telegram, k from 1, then k telegrams of it are committed.
abbrev pub GoesOnFromCommitted : Sends → Core → Buses → Type 0
GoesOnFromCommitted sends core buses =
    (line i : ℕ) (s : Summary) (request : FrameSeen) (x : Standing) → is_line line ≡ true
    → session_of core line ≡ Some s → asked_by s ≡ Some request
    → slice_get (buses line).meters i ≡ Some x → x.meter.identity ≡ s.meter
    → (moved_by request x.meter x.position).place ≡ x.position.place + 1 → 1 ≤ x.position.place
    → HasOpen sends s.meter x.position.place core.committed

-- so it is in every house
abbrev pub MetersGoOnFromCommitted : Type 0
MetersGoOnFromCommitted = (budget : ℕ) (sends : Sends) (state : State) (turns : List Turn)
    (buses : Buses) → SpeakForThemselves sends → House budget sends state turns buses
    → GoesOnFromCommitted sends (leads (opened state) turns) buses

-- The lossy line of dc_readout as a bus line of a house (this product).

-- meters at their positions
abbrev pub standings : List Meter → List Position → List Standing
standings meters positions = map (λ x. record { meter = x.0; position = x.1 }) (zip meters positions)

-- no frame, or what is received where this is the outcome of the exchange
abbrev pub IsHeardOf : Outcome → FrameSeen → List Meter → List Position → List ℕ → Type 0
IsHeardOf outcome frame meters positions bytes =
    (frame_of bytes ≡ None) ⊎ (bytes ≡ heard_in outcome frame meters positions)

-- EACH OUTCOME OF AN EXCHANGE ON THE LOSSY LINE, and anything that is no frame in place of its answer, is an exchange
-- of a bus line.
abbrev pub LossyLinesAreBuses : Type 0
LossyLinesAreBuses = (meters : List Meter) (positions : List Position) (waits : Option (List ℕ))
    (outcome : Outcome) (frame : FrameSeen) (bytes : List ℕ)
    → IsHeardOf outcome frame meters positions bytes
    → IsExchanged frame (record { meters = standings meters positions; answer = waits })
    (record {
      meters = standings meters (positions_after outcome frame meters positions);
      answer = Some bytes;
    })
