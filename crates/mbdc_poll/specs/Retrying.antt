-- A filter by which a busy meter is asked again (this product; the error is that of EN 13757-3).
use Rattle.std.specs.Prelude.{⊤, ◌≡◌, ℕ, ◌+◌, Bool, true, false, ◌&&◌, ◌==◌, List, [], ◌∷◌, length}
use Rattle.std.specs.Prelude.{Option, None, Some, Ok, if◌then◌else◌, nat_lt}
use Rattle.dc_core.specs.Event.{asks, hears, asked, heard}
use Rattle.dc_core.specs.declared.line_heard.LineHeard.{LineHeard}
use Rattle.dc_core.specs.declared.line_heard.LineHeard.TheVariants.{Again}
use Rattle.dc_linkframe.specs.Control.{application_error, is_rsp_ud}
use Rattle.dc_linkframe.specs.Frame.{FrameSeen, ack, short, long}
use Rattle.dc_linkframe.specs.Reading.{frame_of}
use Rattle.mbdc_poll.specs.Bus.{Bus}
use Rattle.mbdc_poll.specs.Filtered.{Filter, LetsThrough, filtered_over}
use Rattle.mbdc_poll.specs.Happening.{Happening, does}
use Rattle.mbdc_poll.specs.Talking.{Talk, Talks}
use Rattle.mbdc_poll.specs.declared.filtered.Filtered.{Filtered}
use Rattle.mbdc_poll.specs.declared.phase.Request.TheVariants.{Quiet}
use Rattle.mbdc_poll.specs.declared.retrying.Retrying.{Retrying}

-- ---- what a busy meter says

-- application too busy for handling readout request
abbrev pub too_busy : ℕ
too_busy = 8

abbrev pub has_code : List ℕ → Bool
has_code [] = false
has_code (code ∷ more) = code == too_busy

-- THE METER IS BUSY: this application error comes
abbrev pub is_busy : Option FrameSeen → Bool
is_busy None = false
is_busy (Some ack) = false
is_busy (Some (short control address)) = false
is_busy (Some (long control address ci body)) =
    is_rsp_ud control && (ci == application_error && has_code body)

-- how many such answers in a row are dropped at most
abbrev pub most_dropped : ℕ
most_dropped = 2

-- this many were dropped before this answer
abbrev pub is_dropped : ℕ → List ℕ → Bool
is_dropped before given = nat_lt before most_dropped && is_busy (frame_of given)

abbrev pub answer_by : ℕ → List ℕ → List ℕ
answer_by before given = if is_dropped before given then [] else given

-- silence ends no row
abbrev pub dropped_by : ℕ → List ℕ → ℕ
dropped_by before given =
    if is_dropped before given then before + 1 else if length given == 0 then before else 0

-- ---- the filter

-- each request goes out
abbrev pub Asks : Retrying → List ℕ → Option (List ℕ) → Retrying → Type 0
Asks old request out new = (out ≡ Some request) × (new ≡ old)

-- AN ANSWER PASSES; of one that a meter is busy silence is heard, where fewer than two were dropped in a row.
pub record Hears (old : Retrying) (given answer : List ℕ) (new : Retrying) : Type 0 where
  pub is_answer : answer ≡ answer_by old.dropped given
  pub counts : new.dropped ≡ dropped_by old.dropped given

abbrev pub retrying : Filter Retrying
retrying = record { asks = Asks; hears = Hears }

-- WHERE NOBODY IS BUSY, nothing is dropped: the talk is one on the bus itself.
abbrev pub DropsNothing : {B : Type 0} → Bus B → Type 0
DropsNothing g = LetsThrough g retrying (λ r. ⊤) (λ r given. is_busy (frame_of given) ≡ false)

-- ---- a meter is asked again

-- a bus that gives these answers, one after the other
abbrev pub scripted_bus : Bus (List (List ℕ))
scripted_bus = record {
  lost = λ bus. false;
  waits_left = λ bus. 0;
  sends = λ old request new. new ≡ old;
  opens = λ old request new. new ≡ old;
  waits = λ old new. new ≡ old;
  gives = λ old answer new. old ≡ answer ∷ new;
  late = λ bus. 0;
}

abbrev pub giving : List (List ℕ) → Talk (Filtered (List (List ℕ)) Retrying)
giving answers = record {
  bus = record { bus = answers; filter = record { dropped = 0 }; withholds = false };
  request = Quiet;
  said = false;
}

-- the answer of a busy meter at primary address 1
abbrev pub busy_frame : List ℕ
busy_frame =
    0x68 ∷ 0x04 ∷ 0x04 ∷ 0x68 ∷ 0x08 ∷ 0x01 ∷ application_error ∷ too_busy ∷ 0x81 ∷ 0x16 ∷ []

-- a request of line 1, and what is heard
abbrev pub tried : List ℕ → List ℕ → LineHeard → List Happening → List Happening
tried request bytes answer more =
    does (asks 1, asked (Some request)) ∷ does (hears 1 0 bytes, heard (Ok answer)) ∷ more

-- BUSY TWICE, it is asked the same again, twice: of both answers the readout hears silence, and then the third answer,
-- whatever that is.
pub record IsAskedAgain (request third : List ℕ) (answer : LineHeard) : Type 0 where
  pub last : Talk (Filtered (List (List ℕ)) Retrying)
  pub busy : is_busy (frame_of busy_frame) ≡ true
  pub talk : Talks (filtered_over scripted_bus retrying) 1 (giving (busy_frame ∷ busy_frame ∷ third ∷ []))
      (tried request [] Again (tried request [] Again (tried request third answer []))) last
