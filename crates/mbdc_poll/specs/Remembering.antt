-- A filter that remembers telegrams: a copy of an earlier one is dropped, and on a line with wrong bits one that none
-- before it confirms (this product; the telegrams are those of EN 13757-3).
use Rattle.std.specs.Prelude.{◌≡◌, ◌≢◌, ℕ, ◌+◌, Bool, true, false, ◌&&◌, ◌||◌, ◌==◌, List, [], ◌∷◌, take}
use Rattle.std.specs.Prelude.{Option, None, Some, bytes_eq, if◌then◌else◌, nat_lt}
use Rattle.std.specs.List.{list_any}
use Rattle.dc_core.specs.declared.line_heard.LineHeard.{LineHeard}
use Rattle.dc_core.specs.declared.line_heard.LineHeard.TheVariants.{Again}
use Rattle.dc_linkframe.specs.Control.{is_rsp_ud, variable_data}
use Rattle.dc_linkframe.specs.Fault.{fault_of}
use Rattle.dc_linkframe.specs.Frame.{FrameSeen, ack, short, long}
use Rattle.dc_linkframe.specs.Reading.{frame_of}
use Rattle.dc_linkframe.specs.declared.fault.FrameFault.TheVariants.{Checksum}
use Rattle.mbdc_poll.specs.Bus.{Bus}
use Rattle.mbdc_poll.specs.Confirming.{clear_by, is_unconfirmed, most_clear}
use Rattle.mbdc_poll.specs.Filtered.{Filter, LetsThrough, filtered_over}
use Rattle.mbdc_poll.specs.Retrying.{scripted_bus, tried}
use Rattle.mbdc_poll.specs.Talking.{Talk, Talks}
use Rattle.mbdc_poll.specs.declared.filtered.Filtered.{Filtered}
use Rattle.mbdc_poll.specs.declared.phase.Request.TheVariants.{Quiet}
use Rattle.mbdc_poll.specs.declared.remembering.Remembering.{Remembering}

-- ---- what a copy is

-- A TELEGRAM: a frame with a meter's data
abbrev pub is_telegram : Option FrameSeen → Bool
is_telegram None = false
is_telegram (Some ack) = false
is_telegram (Some (short control address)) = false
is_telegram (Some (long control address ci body)) = is_rsp_ud control && ci == variable_data

abbrev pub has : List (List ℕ) → List ℕ → Bool
has telegrams given = list_any (λ earlier. bytes_eq earlier given) telegrams

-- the request that is out brought it just before
abbrev pub is_repeat : Bool → List (List ℕ) → List ℕ → Bool
is_repeat answered [] given = false
is_repeat answered (latest ∷ earlier) given = answered && bytes_eq latest given

-- A COPY OF AN EARLIER TELEGRAM: it came before, and its meter doesn't repeat it
abbrev pub is_copy : Bool → List (List ℕ) → List ℕ → Bool
is_copy answered telegrams given =
    if is_repeat answered telegrams given then false else has telegrams given

-- how many telegrams are remembered besides the latest
abbrev pub most_before : ℕ
most_before = 63

-- ---- the filter

-- of telegrams a copy, and where an answer lately had a wrong checksum, one that none of these confirms
abbrev pub is_dropped : Remembering → List ℕ → Bool
is_dropped old given =
    is_telegram (frame_of given) && (is_copy old.is_answered old.telegrams.items given
    || (nat_lt old.clear most_clear && is_unconfirmed old.telegrams.items given))

abbrev pub answer_by : Remembering → List ℕ → List ℕ
answer_by old given = if is_dropped old given then [] else given

-- a telegram that is dropped is remembered as well
abbrev pub noted_by : List ℕ → Remembering → Remembering
noted_by given old = record old {
  is_answered = is_telegram (frame_of given) || old.is_answered;
  clear = clear_by old.clear (fault_of given);
  telegrams = if is_telegram (frame_of given) then record { items = given ∷ take most_before old.telegrams.items }
      else old.telegrams;
}

-- another request has no answer yet
abbrev pub asked_by : List ℕ → Remembering → Remembering
asked_by request old =
    if bytes_eq old.request request then old else record old { request = request; is_answered = false }

-- each request goes out
abbrev pub Asks : Remembering → List ℕ → Option (List ℕ) → Remembering → Type 0
Asks old request out new = (out ≡ Some request) × (new ≡ asked_by request old)

-- AN ANSWER PASSES; silence is heard of a copy of one of the last 64 telegrams, and where one of the last 200 answers had
-- a wrong checksum, of a telegram that none of them confirms.
abbrev pub Hears : Remembering → List ℕ → List ℕ → Remembering → Type 0
Hears old given answer new = (answer ≡ answer_by old given) × (new ≡ noted_by given old)

abbrev pub remembering : Filter Remembering
remembering = record { asks = Asks; hears = Hears }

-- WHERE NO TELEGRAM IS ONE OF THE LAST 64 before it, and no answer has a wrong checksum, nothing is dropped: the talk is
-- one on the bus itself.
abbrev pub DropsNothing : {B : Type 0} → Bus B → Type 0
DropsNothing g = LetsThrough g remembering (λ r. r.clear ≡ most_clear)
    (λ r given. (is_telegram (frame_of given) ≡ true → has r.telegrams.items given ≡ false)
    × (fault_of given ≢ Some Checksum))

-- ---- a telegram is asked for again

-- these answers, after so many without a wrong checksum, and no telegram
abbrev pub giving : List (List ℕ) → ℕ → Talk (Filtered (List (List ℕ)) Remembering)
giving answers clear = record {
  bus = record {
    bus = answers;
    filter = record { request = []; is_answered = false; clear = clear; telegrams = record { items = [] } };
    withholds = false;
  };
  request = Quiet;
  said = false;
}

-- a telegram of the meter at primary address 1, by a byte of its body
abbrev pub telegram : ℕ → List ℕ
telegram byte =
    0x68 ∷ 0x04 ∷ 0x04 ∷ 0x68 ∷ 0x08 ∷ 0x01 ∷ variable_data ∷ byte ∷ (0x7B + byte) ∷ 0x16 ∷ []

-- a request for its telegram, by the frame count bit
abbrev pub request_by : Bool → List ℕ
request_by false = 0x10 ∷ 0x5B ∷ 0x01 ∷ 0x5C ∷ 0x16 ∷ []
request_by true = 0x10 ∷ 0x7B ∷ 0x01 ∷ 0x7C ∷ 0x16 ∷ []

-- A COPY OF THE FIRST TELEGRAM COMES THIRD: the readout hears silence, asks the same again, and hears what comes
-- fourth.
pub record IsDropped (byte : ℕ) (answer : LineHeard) : Type 0 where
  pub last : Talk (Filtered (List (List ℕ)) Remembering)
  pub is_one : is_telegram (frame_of (telegram 1)) ≡ true
  pub talk : Talks (filtered_over scripted_bus remembering) 1
      (giving (telegram 1 ∷ telegram 2 ∷ telegram 1 ∷ telegram byte ∷ []) most_clear)
      (tried (request_by true) (telegram 1) answer (tried (request_by false) (telegram 2) answer
      (tried (request_by true) [] Again (tried (request_by true) (telegram byte) answer [])))) last

-- AFTER A WRONG CHECKSUM of a telegram silence is heard, and it is asked for again. It comes again, and is heard.
pub record IsTakenTwice (telegram : List ℕ) (answer : LineHeard) : Type 0 where
  pub last : Talk (Filtered (List (List ℕ)) Remembering)
  pub talk : Talks (filtered_over scripted_bus remembering) 1 (giving (telegram ∷ telegram ∷ []) 0)
      (tried (request_by true) [] Again (tried (request_by true) telegram answer [])) last
  pub all_given : last.bus.bus ≡ []
