-- A `POLL` ends in one whole reading (this product): the meters of the line follow the standard,
-- the bus isn't lost, nothing is lost three times in a row, the disk doesn't fail, and memory is
-- available.
use Rattle.std.specs.Prelude.{◌≡◌, ◌≢◌, ℕ, ◌+◌, ◌*◌, ◌≤◌, ◌<◌, Some, Err, List, [], ◌∷◌}
use Rattle.dc_linkframe.specs.Frame.{FrameSeen}
use Rattle.dc_linkframe.specs.Reading.{frame_of}
use Rattle.dc_readout.specs.declared.world.event.Outcome.{Outcome}
use Rattle.dc_readout.specs.Meter.{Meter}
use Rattle.dc_readout.specs.World.{heard_in}
use Rattle.mbdc_bus.specs.Bus.{Exchange}
use Rattle.mbdc_change.specs.State.{MeterRow}
use Rattle.dc_core.specs.declared.fault.HearFault.TheVariants.{NoMemory}
use Rattle.dc_core.specs.Core.{Core}
use Rattle.dc_core.specs.Event.{Event, Answer, asks, hears, commits, heard, committed}
use Rattle.dc_core.specs.Transcript.{Turn, leads, IsChain}
use Rattle.mbdc_theorems.specs.Beside.{Bus, bus_after, bus_at_first}
use Rattle.mbdc_theorems.specs.Readout.{MayBeRead}
use Rattle.mbdc_theorems.specs.Readout.{IsRead, requests_of}
use Rattle.mbdc_theorems.specs.Readout.{Scene, row_after}
use Rattle.dc_poller.specs.Link.{Link, linked}
use Rattle.dc_poller.specs.Poll.{Happening, does, talks, loses, Polls}

-- ---- what the line and the machine do

-- The concentrator isn't out of memory, and no commit fails.
abbrev pub Works : Event → Answer → Type 0
Works (hears line moment bytes) (heard answer) = answer ≢ Err NoMemory
Works commits (committed (Err fault)) = ⊥
Works event answer = Unit {0}

module _ (meters : List Meter) where
  -- The request reaches the meters of the line, and this is what comes back. It isn't the third
  -- loss in a row, and so it goes on.
  pub record GivesTo (bus : Bus) (exchange : Exchange) (goes_on : Bus → Type 0) : Type 0 where
    pub outcome : Outcome
    pub frame : FrameSeen
    pub is_frame : frame_of exchange.request ≡ Some frame
    pub answer_is : exchange.answer ≡ heard_in outcome frame meters bus.positions
    pub few : row_after bus.row outcome < 3
    pub then_on : goes_on (bus_after meters outcome frame bus)

  -- ALL THAT HAPPENS IS SERVED by the line and by the machine. The bus isn't lost.
  abbrev pub IsServed : Bus → List Happening → Type 0
  IsServed bus [] = Unit {0}
  IsServed bus (does turn ∷ more) = Works turn.0 turn.1 × IsServed bus more
  IsServed bus (talks exchange ∷ more) =
      GivesTo bus exchange (λ (now : Bus). IsServed now more)
  IsServed bus (loses ∷ more) = ⊥

-- ---- what a poll comes to

-- number of requests asked for
abbrev pub asks_by : Event → ℕ
asks_by (asks line) = 1
asks_by event = 0

abbrev pub rounds_in : List Happening → ℕ
rounds_in [] = 0
rounds_in (does turn ∷ more) = asks_by turn.0 + rounds_in more
rounds_in (happening ∷ more) = rounds_in more

-- The meter is read, after no more requests than three for each that its readout has. The last
-- look, at which nothing is asked any more, counts as one.
pub record EndsRead (line : ℕ) (meter : Meter) (row : MeterRow) (parts : List (List ℕ))
    (happened : List Happening) (before now : Core) : Type 0 where
  pub within : rounds_in happened ≤ 3 * requests_of meter.address parts + 1
  pub read : IsRead line meter.identity row parts before now

-- A POLL ENDS IN A READING, where nothing is pending when it begins.
abbrev pub PollsEnd : Type 0
PollsEnd = (line : ℕ) (budget moment place : ℕ) (meters : List Meter) (scene : Scene)
    (meter : Meter) (row : MeterRow) (parts : List (List ℕ)) (left : Link) (turns : List Turn)
    (exchanges : List Exchange) (text : List ℕ)
    (polls : Polls line moment meter.identity linked left turns exchanges text)
    → MayBeRead budget line meters scene place meter row parts
    → scene.core.pending ≡ []
    → IsChain budget scene.core turns
    → IsServed meters (bus_at_first scene.positions) polls.happened
    → EndsRead line meter row parts polls.happened scene.core (leads scene.core turns)

-- a poll of this meter, all of which is served
pub record ServedPoll (line : ℕ) (budget moment : ℕ) (meters : List Meter) (scene : Scene)
    (meter : Meter) : Type 0 where
  pub left : Link
  pub turns : List Turn
  pub exchanges : List Exchange
  pub text : List ℕ
  pub polls : Polls line moment meter.identity linked left turns exchanges text
  pub chain : IsChain budget scene.core turns
  pub served : IsServed meters (bus_at_first scene.positions) polls.happened

-- SUCH A POLL EXISTS, at each moment.
abbrev pub PollsAreServed : Type 0
PollsAreServed = (line : ℕ) (budget moment place : ℕ) (meters : List Meter) (scene : Scene)
    (meter : Meter) (row : MeterRow) (parts : List (List ℕ))
    → MayBeRead budget line meters scene place meter row parts
    → scene.core.pending ≡ []
    → ServedPoll line budget moment meters scene meter
