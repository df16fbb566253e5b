-- The readout of a meter over a bus line (this product): each happening follows from the one before
-- it.
use Rattle.std.specs.Prelude.{◌≡◌, ℕ, Bool, true, false, ◌≤◌, None, Some, Result, Ok, Err}
use Rattle.std.specs.Prelude.{List, [], ◌∷◌, length, flat_map}
use Rattle.dc_address.specs.declared.identity.Identity.{Identity}
use Rattle.dc_core.specs.Event.{Event, Answer, starts, asks, hears, commits, started, asked, heard}
use Rattle.dc_core.specs.Event.{committed, replied}
use Rattle.dc_core.specs.Text.{answer_text}
use Rattle.dc_core.specs.Transcript.{Turn}
use Rattle.dc_core.specs.declared.fault.HearFault.{HearFault}
use Rattle.dc_core.specs.declared.fault.HearFault.TheVariants.{PendingFull}
use Rattle.dc_core.specs.declared.line_heard.LineHeard.{LineHeard}
use Rattle.dc_core.specs.declared.line_heard.LineHeard.TheVariants.{Again, Ready, Accepted, Failed}
use Rattle.mbdc_bus.specs.Limits.{most_answer}
use Rattle.mbdc_bus.specs.Bus.{Exchange}
use Rattle.dc_poller.specs.Link.{Link, linked, lost, IsHeardOver, loss_line}

-- a turn of the concentrator, an exchange over the bus, or the bus's loss
pub data Happening : Type 0 where
  does : Turn → Happening
  talks : Exchange → Happening
  loses : Happening

-- what is to be done next
pub data Due : Type 0 where
  to_start : Due
  to_ask : Due
  -- this request goes over the bus
  to_send : List ℕ → Due
  -- this is the answer to it
  to_hear : List ℕ → Due
  to_commit : Due
  -- the maximum number of changes is pending: they are committed, and then the answer is taken
  -- again
  to_make_room : List ℕ → Due
  to_hear_again : List ℕ → Due
  is_over : Due

-- and how the bus is found
pub record Phase : Type 0 where
  pub due : Due
  pub link : Link

-- ---- which event is next

abbrev pub IsDueEvent : ℕ → ℕ → Identity → Due → Event → Type 0
IsDueEvent line moment meter to_start event = event ≡ starts line meter
IsDueEvent line moment meter to_ask event = event ≡ asks line
IsDueEvent line moment meter (to_send request) event = ⊥
IsDueEvent line moment meter (to_hear bytes) event = event ≡ hears line moment bytes
IsDueEvent line moment meter to_commit event = event ≡ commits
IsDueEvent line moment meter (to_make_room bytes) event = event ≡ commits
IsDueEvent line moment meter (to_hear_again bytes) event = event ≡ hears line moment bytes
IsDueEvent line moment meter is_over event = ⊥

-- A bus is lost over a request, whose answer is silence.
abbrev pub MayBeLost : Due → Type 0
MayBeLost to_start = ⊥
MayBeLost to_ask = ⊥
MayBeLost (to_send request) = ⊥
MayBeLost (to_hear bytes) = bytes ≡ []
MayBeLost to_commit = ⊥
MayBeLost (to_make_room bytes) = ⊥
MayBeLost (to_hear_again bytes) = ⊥
MayBeLost is_over = ⊥

-- The request is sent. A lost bus answers with silence, and a bus is lost at most once.
abbrev pub IsDue : ℕ → ℕ → Identity → Phase → Happening → Type 0
IsDue line moment meter phase (does turn) = IsDueEvent line moment meter phase.due turn.0
IsDue line moment meter phase (talks exchange) =
    (phase.due ≡ to_send exchange.request) × (length exchange.answer ≤ most_answer)
    × IsHeardOver phase.link exchange.answer
IsDue line moment meter phase loses = (phase.link ≡ linked) × MayBeLost phase.due

-- ---- what is next after it

-- a part is committed, and then comes the next request; a failure or a refusal is the end
abbrev pub behind_heard : Result LineHeard HearFault → Due
behind_heard (Ok Again) = to_ask
behind_heard (Ok Ready) = to_ask
behind_heard (Ok (Accepted part more)) = to_commit
behind_heard (Ok (Failed why)) = is_over
behind_heard (Err fault) = is_over

-- but if the maximum number of changes is pending, the readout can go on
abbrev pub behind_first_heard : List ℕ → Result LineHeard HearFault → Due
behind_first_heard bytes (Ok answer) = behind_heard (Ok answer)
behind_first_heard bytes (Err PendingFull) = to_make_room bytes
behind_first_heard bytes (Err fault) = is_over

abbrev pub behind_turn : Due → Event → Answer → Due
behind_turn to_start event (started (Ok done)) = to_ask
behind_turn to_ask event (asked (Some request)) = to_send request
behind_turn (to_hear bytes) event (heard answer) = behind_first_heard bytes answer
behind_turn to_commit event (committed (Ok count)) = to_ask
behind_turn (to_make_room bytes) event (committed (Ok count)) = to_hear_again bytes
behind_turn (to_hear_again bytes) event (heard answer) = behind_heard answer
behind_turn due event answer = is_over

abbrev pub behind : Phase → Happening → Phase
behind phase (does turn) = record { due = behind_turn phase.due turn.0 turn.1; link = phase.link }
behind phase (talks exchange) = record { due = to_hear exchange.answer; link = phase.link }
behind phase loses = record { due = phase.due; link = lost }

-- ---- all that happens

-- each happening follows those before it, and this is the phase after all
abbrev pub IsWay : ℕ → ℕ → Identity → Phase → List Happening → Phase → Type 0
IsWay line moment meter phase [] last = last ≡ phase
IsWay line moment meter phase (happening ∷ more) last =
    IsDue line moment meter phase happening
    × IsWay line moment meter (behind phase happening) more last

abbrev pub turns_of : Happening → List Turn
turns_of (does turn) = turn ∷ []
turns_of (talks exchange) = []
turns_of loses = []

abbrev pub happened_turns : List Happening → List Turn
happened_turns happened = flat_map turns_of happened

abbrev pub exchanges_of : Happening → List Exchange
exchanges_of (does turn) = []
exchanges_of (talks exchange) = exchange ∷ []
exchanges_of loses = []

abbrev pub happened_exchanges : List Happening → List Exchange
happened_exchanges happened = flat_map exchanges_of happened

-- the text of an answer; nothing is printed if no request is left
abbrev pub told_text : Answer → List ℕ
told_text (started answer) = answer_text (started answer)
told_text (asked None) = []
told_text (asked (Some request)) = answer_text (asked (Some request))
told_text (heard answer) = answer_text (heard answer)
told_text (committed answer) = answer_text (committed answer)
told_text (replied reply) = answer_text (replied reply)

abbrev pub happening_text : Happening → List ℕ
happening_text (does turn) = told_text turn.1
happening_text (talks exchange) = []
happening_text loses = loss_line

abbrev pub happened_text : List Happening → List ℕ
happened_text happened = flat_map happening_text happened

-- A POLL, from its start to its end: these turns, these exchanges over the bus, and this text.
pub record Polls (line : ℕ) (moment : ℕ) (meter : Identity) (link left : Link)
    (turns : List Turn) (exchanges : List Exchange) (text : List ℕ) : Type 0 where
  pub happened : List Happening
  pub last : Phase
  pub way : IsWay line moment meter (record { due = to_start; link = link }) happened last
  pub ends : last.due ≡ is_over
  pub left_is : left ≡ last.link
  pub turns_are : turns ≡ happened_turns happened
  pub exchanges_are : exchanges ≡ happened_exchanges happened
  pub text_is : text ≡ happened_text happened

-- the first turns of a poll, and its exchanges until then
pub record PollsPart (line : ℕ) (moment : ℕ) (meter : Identity) (link : Link) (turns : List Turn)
    (exchanges : List Exchange) : Type 0 where
  pub happened : List Happening
  pub last : Phase
  pub way : IsWay line moment meter (record { due = to_start; link = link }) happened last
  pub turns_are : turns ≡ happened_turns happened
  pub exchanges_are : exchanges ≡ happened_exchanges happened
