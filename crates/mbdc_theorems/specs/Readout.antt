-- Which answers end an exchange (EN 13757-2).
use Rattle.std.specs.Prelude.{ℕ, Bool, true, false, not, ◌&&◌, ◌==◌, if◌then◌else◌, Option, Some, None, ◌≡◌}
use Rattle.std.specs.Prelude.{◌≢◌, ◌⊎◌, ◌+◌, ◌<◌, Result, Ok, Err, List, [], ◌∷◌, ◌≤◌, length, slice_get}
use Rattle.std.specs.Prelude.{sum_by, ◌*◌, IsSome, ◌++◌, map}
use Rattle.std.specs.List.{AllByRecursion}
use Rattle.dc_linkframe.specs.Control.{selected, snd_nke, snd_ud}
use Rattle.dc_linkframe.specs.Frame.{FrameSeen, ack, short, long}
use Rattle.dc_linkframe.specs.Reading.{frame_of}
use Rattle.dc_address.specs.declared.identity.Identity.{Identity}
use Rattle.dc_readout.specs.declared.world.event.Outcome.{Outcome}
use Rattle.dc_readout.specs.declared.world.event.Outcome.TheVariants.{AsSent}
use Rattle.dc_readout.specs.Meter.{Meter, Position}
use Rattle.dc_readout.specs.World.{positions_after, heard_in, AreRegular, whole_readout}
use Rattle.dc_core.specs.declared.line_heard.LineHeard.{LineHeard}
use Rattle.dc_core.specs.declared.fault.HearFault.{HearFault}
use Rattle.dc_core.specs.declared.fault.HearFault.TheVariants.{NoMemory}
use Rattle.dc_core.specs.Core.{Core, present, opened, session_of}
use Rattle.dc_core.specs.Event.{starts, asks, hears, commits, started, asked, heard, committed}
use Rattle.dc_core.specs.Step.{next, start_answer, ask_answer}
use Rattle.dc_core.specs.Transcript.{Turn, leads, IsChain}
use Rattle.dc_records.specs.Telegram.{Parsed, telegram_at}
use Rattle.dc_readout.specs.Answer.{max_parts}
use Rattle.dc_readout.specs.Regular.{IsOwnOnly}
use Rattle.mbdc_change.specs.State.{State, MeterRow, row_of, PartRow}
use Rattle.mbdc_change.specs.Size.{size_of}
use Rattle.mbdc_change.specs.Fields.{end_of_numbers}
use Rattle.dc_core.specs.Lines.{line_count}
use Rattle.dc_readout.specs.Session.{commands}
use Rattle.mbdc_change.specs.Apply.{with_row}

-- whether an acknowledgement answers a request: SND_NKE or SND_UD
abbrev pub is_command : Option FrameSeen → Bool
is_command None = false
is_command (Some ack) = false
is_command (Some (short control address)) = control == snd_nke
is_command (Some (long control address ci body)) = control == snd_ud

-- the reset of all selected meters has no answer
abbrev pub has_answer : FrameSeen → Bool
has_answer ack = true
has_answer (short control address) = not (control == snd_nke && address == selected)
has_answer (long control address ci body) = true

-- an answer of another kind than the request has: a command is acknowledged, any other request is
-- answered by a long frame
abbrev pub is_wrong : FrameSeen → FrameSeen → Bool
is_wrong request ack = not (is_command (Some request))
is_wrong request (short control address) = true
is_wrong request (long control address ci body) = is_command (Some request)

-- silence, bytes that are no frame or an answer of the wrong kind, where an answer was expected
abbrev pub clear_after : FrameSeen → Option FrameSeen → Bool → Bool
clear_after request None clear = if has_answer request then false else clear
clear_after request (Some frame) clear = if is_wrong request frame then false else clear

-- The rounds of a readout on one line, and what the line loses in them (this product). The meters
-- follow the standard: the frame count bit at both stations (EN 13757-2), selection (EN 13757-3
-- until 2013, since then EN 13757-7).

-- ---- rounds

-- a concentrator, and the positions of the meters on one of its lines
pub record Scene : Type 0 where
  pub core : Core
  pub positions : List Position

-- A round: what the line does to the exchange, the bytes of the request and the frame that they
-- spell, the moment of the answer, what the concentrator makes of it, and the number of changes
-- that are committed after it.
pub record Round : Type 0 where
  pub outcome : Outcome
  pub request : List ℕ
  pub frame : FrameSeen
  pub moment : ℕ
  pub answer : Result LineHeard HearFault
  pub count : ℕ

module _ (budget line : ℕ) (meters : List Meter) where
  -- The request reaches the meters of the line, their reply is heard, and the pending changes are
  -- committed.
  abbrev pub turns_of : Scene → Round → List Turn
  turns_of scene r =
      (asks line, asked (Some r.request))
      ∷ (hears line r.moment (heard_in r.outcome r.frame meters scene.positions), heard r.answer)
      ∷ (commits, committed (Ok r.count))
      ∷ []

  -- The concentrator may take these turns. It isn't out of memory, and the commit doesn't fail.
  pub record IsRound (scene : Scene) (r : Round) : Type 0 where
    pub chain : IsChain budget scene.core (turns_of scene r)
    pub is_frame : frame_of r.request ≡ Some r.frame
    pub memory : r.answer ≢ Err NoMemory

  abbrev pub scene_after : Scene → Round → Scene
  scene_after scene r = record {
    core = leads scene.core (turns_of scene r);
    positions = positions_after r.outcome r.frame meters scene.positions;
  }

  -- rounds, one after the other
  abbrev pub AreRounds : Scene → List Round → Type 0
  AreRounds scene [] = Unit {0}
  AreRounds scene (r ∷ rounds) = IsRound scene r × AreRounds (scene_after scene r) rounds

  -- the scene after them
  abbrev pub scene_behind : Scene → List Round → Scene
  scene_behind scene [] = scene
  scene_behind scene (r ∷ rounds) = scene_behind (scene_after scene r) rounds

-- the scene after the readout of this meter was started
abbrev pub begun_on : ℕ → Identity → Scene → Scene
begun_on line meter scene =
    record scene { core = next scene.core (starts line meter) (started (Ok tt)) }

-- ---- losses

abbrev pub losses_by : Outcome → ℕ
losses_by AsSent = 0
losses_by outcome = 1

-- the number of rounds that lost something
abbrev pub losses_in : List Round → ℕ
losses_in [] = 0
losses_in (r ∷ rounds) = losses_by r.outcome + losses_in rounds

-- the number of losses in a row, after this many before
abbrev pub row_after : ℕ → Outcome → ℕ
row_after row AsSent = 0
row_after row outcome = row + 1

-- Nothing is lost three times in a row, where this many losses came before: a session sends a request
-- three times.
abbrev pub LoseFew : ℕ → List Round → Type 0
LoseFew row [] = Unit {0}
LoseFew row (r ∷ rounds) = (row_after row r.outcome < 3) × LoseFew (row_after row r.outcome) rounds

-- ---- what is heard

-- Whether these bytes are a whole answer to a request: the acknowledgement of a command, a long frame
-- for another request. The reset of all selected meters has none.
abbrev pub is_answered : FrameSeen → List ℕ → Bool
is_answered frame bytes =
    if has_answer frame then clear_after frame (frame_of bytes) true else false

-- where something is lost, no whole answer; where nothing is, anything after a request without one
abbrev pub IsUnanswered : Outcome → FrameSeen → List ℕ → Type 0
IsUnanswered AsSent frame bytes = has_answer frame ≡ false
IsUnanswered outcome frame bytes = is_answered frame bytes ≡ false

-- WHAT IS HEARD of an exchange: what the meters make of it, or other bytes that are no whole answer
-- where something was lost, as noise, a piece of an answer, or a late acknowledgement.
abbrev pub IsHeard : Outcome → FrameSeen → List Meter → List Position → List ℕ → Type 0
IsHeard outcome frame meters positions bytes =
    (bytes ≡ heard_in outcome frame meters positions) ⊎ IsUnanswered outcome frame bytes

-- What a readout needs of the meter, the concentrator and the register, and that this can be met
-- (this product).

-- a telegram of this meter that can be read: whole, in security mode 0, with the meter's identity
pub record IsOwnTelegram (meter : Identity) (body : List ℕ) : Type 0 where
  pub telegram : Parsed
  pub is_read : telegram_at body ≡ Ok telegram
  pub own : telegram.header.identity ≡ meter

-- the size of a part in the register
abbrev pub body_size : List ℕ → ℕ
body_size body = 9 + length body

-- the size of these parts and of the reading that they make
abbrev pub room_for : List ℕ → List (List ℕ) → ℕ
room_for flat parts = 18 + length flat + sum_by body_size parts

-- At this place of the line is the meter, with these parts to read, whatever its position.
pub record IsThere (meters : List Meter) (positions : List Position) (place : ℕ) (meter : Meter)
    (parts : List (List ℕ)) : Type 0 where
  pub regular : AreRegular meters
  pub counted : length positions ≡ length meters
  pub stands : slice_get meters place ≡ Some meter
  pub whole : whole_readout meter.bodies ≡ Some parts
  pub few : length parts ≤ max_parts
  pub own : AllByRecursion (IsOwnTelegram meter.identity) parts

-- The concentrator has it registered with this row, and may start its readout.
pub record CanBegin (line : ℕ) (meters : List Meter) (scene : Scene) (place : ℕ) (meter : Meter)
    (row : MeterRow) (parts : List (List ℕ)) : Type 0 where
  pub there : IsThere meters scene.positions place meter parts
  pub lines : length scene.core.lines ≡ line_count
  pub may_start : start_answer scene.core line meter.identity ≡ Ok tt
  pub registered : row_of meter.identity (present scene.core) ≡ Some row
  pub address : row.address ≡ meter.address

-- And the register has room for what is read, and a serial.
pub record MayBeRead (budget line : ℕ) (meters : List Meter) (scene : Scene) (place : ℕ)
    (meter : Meter) (row : MeterRow) (parts : List (List ℕ)) : Type 0 where
  pub begins : CanBegin line meters scene place meter row parts
  pub room : size_of (present scene.core) + room_for row.flat parts ≤ budget
  pub serial : (present scene.core).next_serial < end_of_numbers

-- ---- the premises can be met

-- a house whose only meter has two parts to read
pub record MayBeMet (identity : Identity) (address : Option ℕ) (position : Position) : Type 0 where
  pub state : State
  pub meter : Meter
  pub row : MeterRow
  pub parts : List (List ℕ)
  pub who : meter.identity ≡ identity
  pub whom : meter.address ≡ address
  pub two : length parts ≡ 2
  pub may : MayBeRead 1000 1 (meter ∷ [])
      (record { core = opened state; positions = position ∷ [] }) 0 meter row parts

-- Such a house exists for each identity, each primary address or none, and each position.
abbrev pub PremisesAreMet : Type 0
PremisesAreMet = (identity : Identity) (address : Option ℕ) (position : Position)
    → IsOwnOnly address → MayBeMet identity address position

-- A readout ends in one whole reading (this product): the meters follow the standard, nothing is
-- lost three times in a row, the disk doesn't fail, and memory is available.

-- ---- a reading

-- the register with one reading more, of these parts of a meter in its flat, and no part of the
-- meter open
abbrev pub with_reading : Identity → MeterRow → List PartRow → State → State
with_reading meter row parts s = record (with_row meter (record row { parts = [] }) s) {
  readings = s.readings
      ++ record { serial = s.next_serial; meter = meter; flat = row.flat; parts = parts } ∷ [];
  next_serial = s.next_serial + 1;
}

-- The meter is read: nobody is on the line, nothing is pending, and what is committed is the
-- register before with one reading more, whose bodies are these parts, whole and in order.
pub record IsRead (line : ℕ) (meter : Identity) (row : MeterRow) (parts : List (List ℕ))
    (before now : Core) : Type 0 where
  pub free : session_of now line ≡ None
  pub none_waits : now.pending ≡ []
  pub read : List PartRow
  pub bodies_are : map (λ (part : PartRow). part.body) read ≡ parts
  pub register : now.committed ≡ with_reading meter row read (present before)

-- the number of requests: a reset, a selection where the meter has no primary address, and each
-- part
abbrev pub requests_of : Option ℕ → List (List ℕ) → ℕ
requests_of address parts = commands address + length parts

-- ---- with losses

-- After some rounds of a readout: they are at most its requests and one for each loss, and no
-- more than three for each request. While something is asked, another round can be done, whatever
-- the line does to it and whenever the answer comes. Where nothing is asked any more, the meter is
-- read.
pub record GoesWell (budget line : ℕ) (meters : List Meter) (first : Scene) (meter : Meter)
    (row : MeterRow) (parts : List (List ℕ)) (rounds : List Round) (scene : Scene) : Type 0 where
  pub within : length rounds ≤ requests_of meter.address parts + losses_in rounds
  pub thrice : length rounds ≤ 3 * requests_of meter.address parts
  pub goes_on : IsSome (ask_answer scene.core line) → (outcome : Outcome) (moment : ℕ)
      → (r : Round) × (r.outcome ≡ outcome) × (r.moment ≡ moment)
      × IsRound budget line meters scene r
  pub ends : ask_answer scene.core line ≡ None
      → IsRead line meter.identity row parts first.core scene.core

-- A READOUT ENDS IN A READING.
abbrev pub ReadoutsEnd : Type 0
ReadoutsEnd = (budget line : ℕ) (meters : List Meter) (scene : Scene) (place : ℕ) (meter : Meter)
    (row : MeterRow) (parts : List (List ℕ)) (rounds : List Round)
    → MayBeRead budget line meters scene place meter row parts
    → AreRounds budget line meters (begun_on line meter.identity scene) rounds
    → LoseFew 0 rounds
    → GoesWell budget line meters scene meter row parts rounds
    (scene_behind budget line meters (begun_on line meter.identity scene) rounds)

-- ---- without losses

-- After some rounds that lost nothing: they are at most the readout's requests. While they are
-- fewer, another round can be done. When they are as many, the meter is read.
pub record RunsThrough (budget line : ℕ) (meters : List Meter) (first : Scene) (meter : Meter)
    (row : MeterRow) (parts : List (List ℕ)) (rounds : List Round) (scene : Scene) : Type 0 where
  pub within : length rounds ≤ requests_of meter.address parts
  pub goes_on : length rounds < requests_of meter.address parts → (moment : ℕ)
      → (r : Round) × (r.outcome ≡ AsSent) × (r.moment ≡ moment)
      × IsRound budget line meters scene r
  pub ends : length rounds ≡ requests_of meter.address parts
      → IsRead line meter.identity row parts first.core scene.core

-- WHERE NOTHING IS LOST, EACH PART IS REQUESTED ONCE, and then the meter is read.
abbrev pub UndisturbedReadoutsEnd : Type 0
UndisturbedReadoutsEnd = (budget line : ℕ) (meters : List Meter) (scene : Scene) (place : ℕ)
    (meter : Meter) (row : MeterRow) (parts : List (List ℕ)) (rounds : List Round)
    → MayBeRead budget line meters scene place meter row parts
    → AreRounds budget line meters (begun_on line meter.identity scene) rounds
    → AllByRecursion (λ (r : Round). r.outcome ≡ AsSent) rounds
    → RunsThrough budget line meters scene meter row parts rounds
    (scene_behind budget line meters (begun_on line meter.identity scene) rounds)

-- ---- the lines of a concentrator

-- After every chain of steps of a concentrator that was just opened, it has eight lines.
abbrev pub LinesAreKept : Type 0
LinesAreKept = (budget : ℕ) (state : State) (turns : List Turn)
    → IsChain budget (opened state) turns
    → length (leads (opened state) turns).lines ≡ line_count
