-- The talk on a bus that its line carries, what a concentrator needs meanwhile, and a readout within it (this product).
use Rattle.std.specs.Prelude.{◌≡◌, ℕ, ◌<◌, Some, Ok, Err, List, ◌∷◌, ◌++◌}
use Rattle.std.specs.List.{AllByRecursion}
use Rattle.dc_linkframe.specs.Frame.{FrameSeen}
use Rattle.dc_linkframe.specs.Reading.{frame_of}
use Rattle.dc_readout.specs.declared.world.event.Outcome.{Outcome}
use Rattle.dc_readout.specs.Meter.{Meter, Position}
use Rattle.mbdc_change.specs.State.{State, MeterRow, row_of}
use Rattle.dc_core.specs.Core.{present, opened}
use Rattle.dc_core.specs.Event.{Answer, starts, hears, commits, started, heard, committed}
use Rattle.dc_core.specs.Transcript.{Turn, leads, IsChain}
use Rattle.mbdc_poll.specs.Bus.{Bus}
use Rattle.mbdc_poll.specs.Happening.{Happening, does, happened_on, happened_turns}
use Rattle.mbdc_poll.specs.Talking.{Talk, Talks, rests, begins, has_none, sends_it, waits_it, takes_it}
use Rattle.mbdc_poll.specs.Talking.{hears_it, stands_by, tells_it, loses_it}
use Rattle.mbdc_poll.specs.declared.phase.Request.TheVariants.{Quiet}
use Rattle.dc_address.specs.declared.identity.Identity.{Identity}
use Rattle.dc_core.specs.declared.fault.HearFault.TheVariants.{NoMemory}
use Rattle.mbdc_theorems.specs.Beside.{Bus as Line, bus_at_first, bus_after, IsOfLines, GoesBeside}
use Rattle.mbdc_theorems.specs.Readout.{IsThere, IsHeard, row_after}

-- What the bus gives of a request is what its meters make of it, or no whole answer where something
-- was lost. It isn't the third loss in a row, and so it goes on.
pub record GivesTo (meters : List Meter) (now : Line) (bytes : List ℕ) (goes_on : Line → Type 0)
    : Type 0 where
  pub outcome : Outcome
  pub frame : FrameSeen
  pub waited : now.waits ≡ Some frame
  pub bytes_are : IsHeard outcome frame meters now.positions bytes
  pub few : row_after now.row outcome < 3
  pub then_on : goes_on (bus_after meters outcome frame now)

-- the meters of a line, where each of them stands before the poll, and what is to be read of it
pub record Wire : Type 0 where
  pub meters : List Meter
  pub positions : List Position
  pub parts : Identity → List (List ℕ)

-- THE LINE CARRIES THE TALK. What the bus gives of a request is what the meters of the line make of
-- it, and nothing is lost three times in a row. The bus isn't lost. With each start of a readout
-- the losses are counted anew.
abbrev pub IsCarried : {B : Type 0} {g : Bus B} {line : ℕ} {first last : Talk B}
    {happened : List Happening} → List Meter → Line → Talks g line first happened last → Type 0
IsCarried meters now rests = Unit {0}
IsCarried meters now (begins more) = IsCarried meters (bus_at_first now.positions) more
IsCarried meters now (has_none more) = IsCarried meters now more
IsCarried meters now (sends_it {request = request} sends more) =
    IsCarried meters (record now { waits = frame_of request }) more
IsCarried meters now (waits_it waits more) = IsCarried meters now more
IsCarried meters now (takes_it {bytes = bytes} gives more) =
    GivesTo meters now bytes (λ (later : Line). IsCarried meters later more)
IsCarried meters now (hears_it more) = IsCarried meters now more
IsCarried meters now (stands_by more) = IsCarried meters now more
IsCarried meters now (tells_it other more) = IsCarried meters now more
IsCarried meters now (loses_it is_lost more) = ⊥

-- no telegram is refused for want of memory, and no commit fails
abbrev pub IsBacked : Answer → Type 0
IsBacked (heard (Err NoMemory)) = ⊥
IsBacked (committed (Err fault)) = ⊥
IsBacked answer = Unit {0}

-- MEMORY AND DISK SERVE THE CONCENTRATOR in all that happens.
abbrev pub NothingIsWanting : List Happening → Type 0
NothingIsWanting happened =
    AllByRecursion (λ (turn : Turn). IsBacked turn.1) (happened_turns happened)

-- ---- a readout within it

-- So the readout goes, by these turns, and so its line is left.
pub record GoesOn (budget line : ℕ) (meters : List Meter) (meter : Meter) (row : MeterRow)
    (parts : List (List ℕ)) (state : State) (before turns : List Turn) : Type 0 where
  pub last : Line
  pub goes : GoesBeside budget line meters meter row parts (leads (opened state) before)
      (leads (opened state) (before ++ (starts line meter.identity, started (Ok tt)) ∷ turns))
      turns last

-- on the line no readout begins, no answer is refused, and no commit fails
abbrev pub IsDone : Happening → Type 0
IsDone (does (starts line meter, answer)) = ⊥
IsDone (does (hears line moment bytes, heard (Err fault))) = ⊥
IsDone (does (commits, committed (Err fault))) = ⊥
IsDone happening = Unit {0}

-- EACH READOUT OF A POLL ENDS IN A READING. Things happened before its start and after it, on all
-- lines. What happened on its own line after the start is a talk on its bus, which the line carries.
abbrev pub ReadoutsOfAPollEnd : {B : Type 0} → Bus B → Type 0
ReadoutsOfAPollEnd {B} g = (budget line : ℕ) (state : State)
    (before happened : List Happening) (meters : List Meter) (positions : List Position)
    (place : ℕ) (meter : Meter) (row : MeterRow) (parts : List (List ℕ)) (first last : Talk B)
    (talk : Talks g line first (happened_on line happened) last)
    → AllByRecursion IsOfLines (happened_turns before)
    → AllByRecursion IsOfLines (happened_turns happened)
    → IsChain budget (opened state)
    (happened_turns before
    ++ (starts line meter.identity, started (Ok tt)) ∷ happened_turns happened)
    → IsThere meters positions place meter parts
    → row_of meter.identity (present (leads (opened state) (happened_turns before))) ≡ Some row
    → row.address ≡ meter.address
    → first.request ≡ Quiet
    → IsCarried meters (bus_at_first positions) talk
    → AllByRecursion IsDone (happened_on line happened)
    → GoesOn budget line meters meter row parts state
    (happened_turns before) (happened_turns happened)
