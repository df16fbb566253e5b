-- A readout beside those of other lines (this product). Between its requests, their answers and the
-- commits, other lines begin, ask and hear in any order.
use Rattle.std.specs.List.{AllByRecursion}
use Rattle.std.specs.Prelude.{◌≡◌, ◌≢◌, ℕ, ◌+◌, ◌*◌, ◌≤◌, ◌<◌, Option, None, Some, IsSome, Ok, List}
use Rattle.std.specs.Prelude.{[], ◌∷◌, ◌++◌, map, filter, drop, false, Result, Err}
use Rattle.dc_linkframe.specs.Frame.{FrameSeen}
use Rattle.dc_linkframe.specs.Reading.{frame_of}
use Rattle.dc_address.specs.declared.identity.Identity.{Identity}
use Rattle.dc_records.specs.Body.{continues}
use Rattle.dc_readout.specs.Summary.{Summary, Verdict, new, verdict_by}
use Rattle.dc_readout.specs.declared.world.event.Outcome.{Outcome}
use Rattle.dc_readout.specs.Meter.{Meter, Position}
use Rattle.dc_readout.specs.World.{positions_after}
use Rattle.mbdc_change.specs.State.{State, MeterRow, PartRow, ReadingRow, row_of}
use Rattle.dc_meters.specs.Orders.{is_of}
use Rattle.dc_core.specs.declared.line_heard.LineHeard.{LineHeard}
use Rattle.dc_core.specs.declared.line_heard.LineHeard.TheVariants.{Failed}
use Rattle.dc_core.specs.declared.fault.HearFault.{HearFault}
use Rattle.dc_core.specs.declared.fault.HearFault.TheVariants.{Full, PendingFull}
use Rattle.dc_core.specs.Core.{Core, present, session_of, opened}
use Rattle.dc_core.specs.Event.{Event, Answer, starts, asks, hears, commits, offices, started}
use Rattle.dc_core.specs.Event.{asked, heard, committed}
use Rattle.dc_core.specs.Step.{ask_answer, hear_answer}
use Rattle.dc_core.specs.Transcript.{Turn, leads, IsChain}
use Rattle.mbdc_theorems.specs.Readout.{IsThere, CanBegin}
use Rattle.mbdc_theorems.specs.Readout.{requests_of}
use Rattle.mbdc_theorems.specs.Readout.{IsHeard, Scene, begun_on, losses_by, row_after}

-- ---- the line

-- The line of the readout: the positions of its meters, the frame that waits for an answer, the
-- number of exchanges, the number of losses, and how many of the last exchanges in a row lost
-- something.
pub record Bus : Type 0 where
  pub positions : List Position
  pub waits : Option FrameSeen
  pub heard : ℕ
  pub lost : ℕ
  pub row : ℕ

-- before the first exchange
abbrev pub bus_at_first : List Position → Bus
bus_at_first positions =
    record { positions = positions; waits = None; heard = 0; lost = 0; row = 0 }

abbrev pub bus_after : List Meter → Outcome → FrameSeen → Bus → Bus
bus_after meters outcome frame bus = record {
  positions = positions_after outcome frame meters bus.positions;
  waits = None;
  heard = bus.heard + 1;
  lost = bus.lost + losses_by outcome;
  row = row_after bus.row outcome;
}

-- an event of another line
abbrev pub IsElsewhere : ℕ → Event → Type 0
IsElsewhere line (starts other meter) = other ≢ line
IsElsewhere line (asks other) = other ≢ line
IsElsewhere line (hears other moment bytes) = other ≢ line
IsElsewhere line commits = ⊥
IsElsewhere line (offices text) = ⊥

-- THE LINE SERVES these turns. Each request reaches the meters of the line, and their reply is
-- heard, unless something is lost; then anything is heard that is no whole answer. But nothing is lost
-- three times in a row. No answer is refused:
-- memory and room are available. No commit fails. What other lines do is free.
pub data Serves (line : ℕ) (meters : List Meter) : Bus → List Turn → Bus → Type 0 where
  rests : {bus : Bus} → Serves line meters bus [] bus
  asks_it : {bus last : Bus} {request : List ℕ} {more : List Turn}
      → Serves line meters (record bus { waits = frame_of request }) more last
      → Serves line meters bus ((asks line, asked (Some request)) ∷ more) last
  has_none : {bus last : Bus} {more : List Turn}
      → Serves line meters bus more last
      → Serves line meters bus ((asks line, asked None) ∷ more) last
  gives_it : {bus last : Bus} {moment : ℕ} {bytes : List ℕ} {answer : LineHeard} {more : List Turn}
      (outcome : Outcome) (frame : FrameSeen)
      → bus.waits ≡ Some frame → IsHeard outcome frame meters bus.positions bytes
      → row_after bus.row outcome < 3
      → Serves line meters (bus_after meters outcome frame bus) more last
      → Serves line meters bus ((hears line moment bytes, heard (Ok answer)) ∷ more) last
  commits_it : {bus last : Bus} {count : ℕ} {more : List Turn}
      → Serves line meters bus more last
      → Serves line meters bus ((commits, committed (Ok count)) ∷ more) last
  goes_by : {bus last : Bus} {turn : Turn} {more : List Turn}
      → IsElsewhere line turn.0
      → Serves line meters bus more last
      → Serves line meters bus (turn ∷ more) last

-- ---- what it comes to

-- No other line reads this meter.
abbrev pub IsOnlyOn : ℕ → Identity → Core → Type 0
IsOnlyOn line meter core =
    (other : ℕ) (s : Summary) → other ≢ line → session_of core other ≡ Some s → s.meter ≢ meter

abbrev pub readings_of : Identity → State → List ReadingRow
readings_of meter state = filter (is_of meter) state.readings

-- The register has one reading more of the meter than before, in its flat, whose bodies are these
-- parts, whole and in order, and no part of the meter is open.
pub record HasRead (meter : Identity) (row : MeterRow) (parts : List (List ℕ)) (before now : State)
    : Type 0 where
  pub serial : ℕ
  pub read : List PartRow
  pub bodies_are : map (λ (part : PartRow). part.body) read ≡ parts
  pub one_more : readings_of meter now ≡ readings_of meter before
      ++ record { serial = serial; meter = meter; flat = row.flat; parts = read } ∷ []
  pub none_open : row_of meter now ≡ Some (record row { parts = [] })

-- an answer is received on this line
abbrev pub IsHeardOn : ℕ → Event → Type 0
IsHeardOn line (starts other meter) = ⊥
IsHeardOn line (asks other) = ⊥
IsHeardOn line (hears other moment bytes) = other ≡ line
IsHeardOn line commits = ⊥
IsHeardOn line (offices text) = ⊥

-- the readout doesn't end in a failure by it
abbrev pub IsNoFailure : Answer → Type 0
IsNoFailure (heard (Ok (Failed why))) = ⊥
IsNoFailure answer = Unit {0}

-- An answer is taken, unless the register is full or too many changes are pending.
abbrev pub IsTakenUnlessFull : Result LineHeard HearFault → Type 0
IsTakenUnlessFull (Ok answer) = IsNoFailure (heard (Ok answer))
IsTakenUnlessFull (Err Full) = Unit {0}
IsTakenUnlessFull (Err PendingFull) = Unit {0}
IsTakenUnlessFull (Err fault) = ⊥

-- A telegram that the session takes is the first of the parts that are left, and where it is the
-- last one of the readout, no other is left.
abbrev pub IsNextPart : List (List ℕ) → Verdict → Type 0
IsNextPart left (new part telegram) = (more : List (List ℕ)) × (left ≡ telegram.body ∷ more)
    × (continues telegram.ending ≡ false → more ≡ [])
IsNextPart left verdict = Unit {0}

-- By these turns the readout never fails. The exchanges are at most its requests and one for each
-- loss, and at most three for each request. While the session is on the line and nothing is
-- pending, a request is sent, and while one waits, whatever the line makes of it is taken, unless
-- room runs out, and a telegram is the next of the parts. Once the session has left the line, the
-- meter is read, and that is committed.
pub record GoesBeside (budget line : ℕ) (meters : List Meter) (meter : Meter) (row : MeterRow)
    (parts : List (List ℕ)) (before now : Core) (turns : List Turn) (last : Bus) : Type 0 where
  pub never_fails :
      AllByRecursion (λ (turn : Turn). IsHeardOn line turn.0 → IsNoFailure turn.1) turns
  pub within : last.heard ≤ requests_of meter.address parts + last.lost
  pub thrice : last.heard ≤ 3 * requests_of meter.address parts
  pub asks_few : (request : List ℕ) → ask_answer now line ≡ Some request
      → last.heard < 3 * requests_of meter.address parts
  pub asks_on : (s : Summary) → session_of now line ≡ Some s → now.pending ≡ []
      → (request : List ℕ) × (ask_answer now line ≡ Some request) × IsSome (frame_of request)
  pub takes : (outcome : Outcome) (frame : FrameSeen) (moment : ℕ) (bytes : List ℕ)
      → last.waits ≡ Some frame → IsHeard outcome frame meters last.positions bytes
      → row_after last.row outcome < 3
      → IsTakenUnlessFull (hear_answer budget now line moment bytes)
  pub next_part : (s : Summary) (outcome : Outcome) (frame : FrameSeen) (bytes : List ℕ)
      → session_of now line ≡ Some s → last.waits ≡ Some frame
      → IsHeard outcome frame meters last.positions bytes → row_after last.row outcome < 3
      → (s.meter ≡ meter.identity) × IsNextPart (drop s.settled parts) (verdict_by s bytes)
  pub ends : session_of now line ≡ None
      → HasRead meter.identity row parts (present before) now.committed

-- A READOUT ENDS IN A READING, whatever the other lines do meanwhile.
abbrev pub ReadoutsEndBesideOthers : Type 0
ReadoutsEndBesideOthers = (budget line : ℕ) (meters : List Meter) (scene : Scene) (place : ℕ)
    (meter : Meter) (row : MeterRow) (parts : List (List ℕ)) (turns : List Turn) (last : Bus)
    → CanBegin line meters scene place meter row parts
    → IsOnlyOn line meter.identity scene.core
    → IsChain budget (begun_on line meter.identity scene).core turns
    → Serves line meters (bus_at_first scene.positions) turns last
    → GoesBeside budget line meters meter row parts scene.core
    (leads (begun_on line meter.identity scene).core turns) turns last

-- ---- in a run of many readouts

-- a turn of a line, or a commit: no line of the office
abbrev pub IsOfLines : Turn → Type 0
IsOfLines (starts line meter, answer) = Unit {0}
IsOfLines (asks line, answer) = Unit {0}
IsOfLines (hears line moment bytes, answer) = Unit {0}
IsOfLines (commits, answer) = Unit {0}
IsOfLines (offices text, answer) = ⊥

-- EACH READOUT OF A RUN ENDS IN A READING: the concentrator was opened, lines were read, whatever
-- came of it, and then the readout of this meter was started, between those of other lines.
abbrev pub ReadoutsOfARunEnd : Type 0
ReadoutsOfARunEnd = (budget : ℕ) (state : State) (before : List Turn) (line : ℕ)
    (meters : List Meter) (positions : List Position) (place : ℕ) (meter : Meter) (row : MeterRow)
    (parts : List (List ℕ)) (turns : List Turn) (last : Bus)
    → AllByRecursion IsOfLines before
    → IsChain budget (opened state)
    (before ++ (starts line meter.identity, started (Ok tt)) ∷ turns)
    → IsThere meters positions place meter parts
    → row_of meter.identity (present (leads (opened state) before)) ≡ Some row
    → row.address ≡ meter.address
    → Serves line meters (bus_at_first positions) turns last
    → GoesBeside budget line meters meter row parts (leads (opened state) before)
    (leads (opened state) (before ++ (starts line meter.identity, started (Ok tt)) ∷ turns))
    turns last
