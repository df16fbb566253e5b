-- A filter that asks a meter that was silent in the last poll one question in this one (this product).
use Rattle.std.specs.Prelude.{◌≡◌, ◌≢◌, ℕ, ◌+◌, Bool, true, false, ◌&&◌, ◌==◌, List, map, length, bytes_eq, []}
use Rattle.std.specs.Prelude.{Option, None, Some, if◌then◌else◌}
use Rattle.std.specs.List.{AllByRecursion, list_any}
use Rattle.dc_address.specs.declared.identity.Identity.{Identity}
use Rattle.dc_linkframe.specs.Control.{reset_to}
use Rattle.dc_linkframe.specs.Frame.{spelling}
use Rattle.dc_readout.specs.Summary.{selection_of}
use Rattle.mbdc_poll.specs.Bus.{Bus}
use Rattle.mbdc_poll.specs.Filtered.{Filter, LetsThrough, filtered_over}
use Rattle.mbdc_poll.specs.Happening.{Happening}
use Rattle.mbdc_poll.specs.Queue.{requests_in}
use Rattle.mbdc_poll.specs.Talking.{Talk, Talks}
use Rattle.mbdc_poll.specs.declared.filtered.Filtered.{Filtered}
use Rattle.mbdc_poll.specs.declared.phase.Request.TheVariants.{Quiet}
use Rattle.mbdc_poll.specs.declared.sparing.Doubt.{Doubt}
use Rattle.mbdc_poll.specs.declared.sparing.Fate.{Fate}
use Rattle.mbdc_poll.specs.declared.sparing.Fate.TheVariants.{Unasked, Silent, Answered}
use Rattle.mbdc_poll.specs.declared.sparing.Sparing.{Sparing}

-- ---- what is known of a meter that was silent in the last poll

-- the first question of its readout: the reset of its primary address, or its selection
abbrev pub first_question : Identity → Option ℕ → List ℕ
first_question meter None = spelling (selection_of meter)
first_question meter (Some address) = spelling (reset_to address)

abbrev pub is_silent : Fate → Bool
is_silent Unasked = false
is_silent Silent = true
is_silent Answered = false

abbrev pub is_unasked : Fate → Bool
is_unasked Unasked = true
is_unasked Silent = false
is_unasked Answered = false

-- its first question met silence, and this is that question again
abbrev pub is_spared_by : List ℕ → Doubt → Bool
is_spared_by request doubt = is_silent doubt.fate && bytes_eq doubt.question request

abbrev pub is_spared : List Doubt → List ℕ → Bool
is_spared doubts request = list_any (λ doubt. is_spared_by request doubt) doubts

-- what silence or an answer says; only the first one counts
abbrev pub fate_after : Fate → Bool → Fate
fate_after Unasked true = Silent
fate_after Unasked false = Answered
fate_after Silent silent = Silent
fate_after Answered silent = Answered

abbrev pub noted_by : List ℕ → Bool → Doubt → Doubt
noted_by request silent doubt =
    if bytes_eq doubt.question request then record doubt { fate = fate_after doubt.fate silent }
    else doubt

-- ---- the filter

-- A REQUEST GOES OUT, unless it is a first question that met silence.
pub record Asks (old : Sparing) (request : List ℕ) (out : Option (List ℕ)) (new : Sparing) : Type 0 where
  pub doubts : new.doubts.now ≡ old.doubts.now
  pub last : new.out ≡ request
  pub goes_out : out ≡ (if is_spared old.doubts.now request then None else Some request)

-- AN ANSWER PASSES. What comes of a first question is noted.
pub record Hears (old : Sparing) (given answer : List ℕ) (new : Sparing) : Type 0 where
  pub same : answer ≡ given
  pub out : new.out ≡ old.out
  pub doubts : new.doubts.now ≡ map (noted_by old.out (length given == 0)) old.doubts.now

abbrev pub sparing : Filter Sparing
sparing = record { asks = Asks; hears = Hears }

-- ---- where first questions are answered

-- none has met silence
abbrev pub NoneIsSilent : List Doubt → Type 0
NoneIsSilent doubts = AllByRecursion (λ (doubt : Doubt). is_silent doubt.fate ≡ false) doubts

-- the request that is out is the first question of such a meter
abbrev pub is_first : List Doubt → List ℕ → Bool
is_first doubts request =
    list_any (λ (doubt : Doubt). is_unasked doubt.fate && bytes_eq doubt.question request) doubts

-- THE FIRST QUESTION TO EACH METER THAT WAS SILENT IS ANSWERED: some byte comes.
abbrev pub AnswersFirst : Sparing → List ℕ → Type 0
AnswersFirst s given = is_first s.doubts.now s.out ≡ true → given ≢ []

-- THEN NOTHING IS SPARED: the talk is one on the bus itself. So a meter that wasn't silent in the last poll, or that
-- answers its first question, is read as without doubts.
abbrev pub SparesNothing : {B : Type 0} → Bus B → Type 0
SparesNothing g = LetsThrough g sparing (λ s. NoneIsSilent s.doubts.now) AnswersFirst

-- ---- a question is spared

-- a bus that counts what is sent
abbrev pub counting_bus : Bus ℕ
counting_bus = record {
  lost = λ bus. false;
  waits_left = λ bus. 0;
  sends = λ old request new. new ≡ old + 1;
  opens = λ old request new. new ≡ old + 1;
  waits = λ old new. new ≡ old;
  gives = λ old answer new. new ≡ old;
  late = λ bus. 0;
}

abbrev pub at_rest : Filtered ℕ Sparing → Talk (Filtered ℕ Sparing)
at_rest bus = record { bus = bus; request = Quiet; said = false }

-- SILENCE ENDS IT: a readout makes two requests, both with this question, and only the first one goes out.
pub record IsAskedOnce (question : List ℕ) : Type 0 where
  pub first : Filtered ℕ Sparing
  pub last : Filtered ℕ Sparing
  pub happened : List Happening
  pub talk : Talks (filtered_over counting_bus sparing) 1 (at_rest first) happened (at_rest last)
  pub none_silent : NoneIsSilent first.filter.doubts.now
  pub requests : requests_in happened ≡ 2
  pub sent : last.bus ≡ first.bus + 1
