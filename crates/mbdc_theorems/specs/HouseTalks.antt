-- A poll as turns of a house (this product): the talk on each bus is with the meters of its line.
use Rattle.std.specs.Prelude.{◌≡◌, ℕ, Some, Result, Ok, Err, List, ◌++◌}
use Rattle.std.specs.List.{AllByRecursion}
use Rattle.mbdc_change.specs.State.{State}
use Rattle.dc_readout.specs.Standing.{Standing}
use Rattle.mbdc_change.specs.declared.change.Change.{Change}
use Rattle.mbdc_change.specs.History.{after}
use Rattle.dc_core.specs.Core.{opened}
use Rattle.dc_core.specs.Headline.{IsPrefix, accepted}
use Rattle.dc_core.specs.Transcript.{Turn, leads, IsChain}
use Rattle.mbdc_theorems.specs.Beside.{IsOfLines}
use Rattle.mbdc_theorems.specs.House.{Sends, Bus, Buses, House, HaveBodies, AreRenewed, IsSent, quiet}
use Rattle.mbdc_theorems.specs.House.{AreWhole, SpeakForThemselves}
use Rattle.mbdc_poll.specs.Bus.{Bus as Link}
use Rattle.mbdc_poll.specs.Happening.{Happening, happened_on, happened_turns}
use Rattle.mbdc_poll.specs.Talking.{Talk, Talks, rests, begins, has_none, sends_it}
use Rattle.mbdc_poll.specs.Talking.{waits_it, takes_it, hears_it, stands_by, tells_it, loses_it}
use Rattle.mbdc_poll.specs.declared.phase.Request.TheVariants.{Quiet}

-- no answer waits after this call, unless it was refused
abbrev pub quiet_once : {X E : Type 0} → Result X E → Bus → Bus
quiet_once (Ok x) bus = quiet bus
quiet_once (Err e) bus = bus

-- a request is sent to the meters of the line, which may have other values by then
pub record IsAsked (sends : Sends) (request : List ℕ) (old new : Bus) : Type 0 where
  pub meters : List Standing
  pub renewed : AreRenewed old.meters meters
  pub bodies : HaveBodies sends meters
  pub sent : IsSent request (record old { meters = meters }) new

-- THE TALK ON A BUS IS WITH THE METERS OF ITS LINE: each request is exchanged with them, and the bus gives what was
-- received. The bus may be lost.
abbrev pub IsOfMeters : {B : Type 0} {g : Link B} {line : ℕ} {first last : Talk B}
    {happened : List Happening} → Sends → Bus → Talks g line first happened last → Type 0
IsOfMeters sends now rests = Unit {0}
IsOfMeters sends now (begins {answer = answer} more) = IsOfMeters sends (quiet_once answer now) more
IsOfMeters sends now (has_none more) = IsOfMeters sends now more
IsOfMeters sends now (sends_it {request = request} sent more) =
    (new : Bus) × IsAsked sends request now new × IsOfMeters sends new more
IsOfMeters sends now (waits_it waits more) = IsOfMeters sends now more
IsOfMeters sends now (takes_it {bytes = bytes} gives more) =
    (now.answer ≡ Some bytes) × IsOfMeters sends now more
IsOfMeters sends now (hears_it {answer = answer} more) = IsOfMeters sends (quiet_once answer now) more
IsOfMeters sends now (stands_by more) = IsOfMeters sends now more
IsOfMeters sends now (tells_it other more) = IsOfMeters sends now more
IsOfMeters sends now (loses_it is_lost more) = IsOfMeters sends now more

-- what happens on this line is a talk on its bus with the meters of the line, and no request is out at first
pub record TalksOn {B : Type 0} (g : Link B) (sends : Sends) (line : ℕ) (happened : List Happening)
    (bus : Bus) : Type 0 where
  pub first : Talk B
  pub last : Talk B
  pub talk : Talks g line first (happened_on line happened) last
  pub none_out : first.request ≡ Quiet
  pub of_meters : IsOfMeters sends bus talk

-- A house may take these turns, and each reading that a crash at any moment may leave is whole.
pub record IsWholeHouse (budget : ℕ) (sends : Sends) (state : State) (turns : List Turn) : Type 0 where
  pub buses : Buses
  pub house : House budget sends state turns buses
  pub whole : (prefix : List Change) → IsPrefix prefix (accepted state turns)
      → AreWhole sends (after state prefix)

-- WHAT A POLL READS IS WHOLE: a house on whose lines a poll talks with the meters goes on as a house.
abbrev pub PollsAreWhole : {B : Type 0} → Link B → Type 0
PollsAreWhole g = (budget : ℕ) (sends : Sends) (state : State) (before : List Turn)
    (happened : List Happening) (buses : Buses)
    → SpeakForThemselves sends → House budget sends state before buses
    → IsChain budget (leads (opened state) before) (happened_turns happened)
    → AllByRecursion IsOfLines (happened_turns happened)
    → ((line : ℕ) → TalksOn g sends line happened (buses line))
    → IsWholeHouse budget sends state (before ++ happened_turns happened)
