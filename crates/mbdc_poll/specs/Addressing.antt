-- A filter by which meters are read by their primary addresses beside one that answers for others (this product; requests
-- and telegrams are those of EN 13757-2 and EN 13757-3).
use Rattle.std.specs.Prelude.{⊤, ◌≡◌, ℕ, true, false, List, [], ◌∷◌, ◌++◌, ◌==◌, ◌&&◌, map, nat_lt}
use Rattle.std.specs.Prelude.{Option, None, Some, bytes_eq, if◌then◌else◌}
use Rattle.std.specs.List.{AllByRecursion, find}
use Rattle.dc_address.specs.Identity.{wire_of}
use Rattle.dc_address.specs.declared.identity.Identity.{Identity}
use Rattle.dc_core.specs.declared.line_heard.LineHeard.{LineHeard}
use Rattle.dc_core.specs.declared.line_heard.LineHeard.TheVariants.{Again}
use Rattle.dc_linkframe.specs.Control.{request_to, reset_to, selected, selection}
use Rattle.dc_linkframe.specs.Frame.{FrameSeen, ack, short, long, spelling}
use Rattle.dc_linkframe.specs.Reading.{frame_of}
use Rattle.dc_records.specs.Telegram.{Parsed}
use Rattle.mbdc_poll.specs.Bus.{Bus}
use Rattle.mbdc_poll.specs.Confirming.{telegram_in}
use Rattle.mbdc_poll.specs.Filtered.{Filter, LetsThrough, filtered_over}
use Rattle.mbdc_poll.specs.Recounting.{acknowledged, begins_readout}
use Rattle.mbdc_poll.specs.Retrying.{tried}
use Rattle.mbdc_poll.specs.Sparing.{first_question}
use Rattle.mbdc_poll.specs.Talking.{Talk, Talks}
use Rattle.mbdc_poll.specs.declared.addressing.Addressed.{Addressed}
use Rattle.mbdc_poll.specs.declared.addressing.Addressing.{Addressing}
use Rattle.mbdc_poll.specs.declared.filtered.Filtered.{Filtered}
use Rattle.mbdc_poll.specs.declared.phase.Request.TheVariants.{Quiet}

-- ---- what goes out

-- the primary address by which the meter of this selection is read, if it is
abbrev pub asked_in : Option Addressed → Option ℕ
asked_in None = None
asked_in (Some meter) = meter.asked

abbrev pub address_for : List ℕ → List Addressed → Option ℕ
address_for request meters = asked_in (find (λ it. bytes_eq (first_question it.meter None) request) meters)

-- A READOUT BEGINS with this request, or goes on by the address that it has
abbrev pub address_by : List ℕ → Addressing → Option ℕ
address_by request old =
    if begins_readout (frame_of request) then address_for request old.selected.now else old.address

-- SND_NKE TO THE ADDRESS in place of a selection; what is for the selected meter goes to that address
abbrev pub readdressed : ℕ → List ℕ → Option FrameSeen → List ℕ
readdressed address request None = request
readdressed address request (Some ack) = request
readdressed address request (Some (short control to)) =
    if to == selected then spelling (short control address) else request
readdressed address request (Some (long control to ci body)) =
    if ci == selection then spelling (reset_to address) else request

abbrev pub sent_as : Option ℕ → List ℕ → Option FrameSeen → List ℕ
sent_as None request frame = request
sent_as (Some address) request frame = readdressed address request frame

-- ---- what is noted

-- a primary address that one meter can have
abbrev pub primary : ℕ → Option ℕ
primary number = if nat_lt 0 number && nat_lt number 251 then Some number else None

-- that of the sender of a frame
abbrev pub sender_in : Option FrameSeen → Option ℕ
sender_in None = None
sender_in (Some ack) = None
sender_in (Some (short control address)) = None
sender_in (Some (long control address ci body)) = primary address

-- a telegram of the meter with these bytes has this address
abbrev pub noted_by : List ℕ → ℕ → Addressed → Addressed
noted_by meter address it =
    if bytes_eq (wire_of it.meter) meter then record it { known = Some address } else it

abbrev pub noted : Option Parsed → Option ℕ → List Addressed → List Addressed
noted None sender meters = meters
noted (Some telegram) None meters = meters
noted (Some telegram) (Some address) meters = map (noted_by (wire_of telegram.header.identity) address) meters

-- ---- the filter

-- A REQUEST GOES OUT, to the address by which the meter is read where it is read so.
pub record Asks (old : Addressing) (request : List ℕ) (out : Option (List ℕ)) (new : Addressing) : Type 0 where
  pub meters : new.selected.now ≡ old.selected.now
  pub address : new.address ≡ address_by request old
  pub goes_out : out ≡ Some (sent_as new.address request (frame_of request))

-- AN ANSWER PASSES. The address of a telegram is noted.
pub record Hears (old : Addressing) (given answer : List ℕ) (new : Addressing) : Type 0 where
  pub same : answer ≡ given
  pub address : new.address ≡ old.address
  pub meters : new.selected.now ≡ noted (telegram_in (frame_of given)) (sender_in (frame_of given)) old.selected.now

abbrev pub addressing : Filter Addressing
addressing = record { asks = Asks; hears = Hears }

-- ---- where all are selected

-- none of these is read by its address
abbrev pub AreSelected : List Addressed → Type 0
AreSelected meters = AllByRecursion (λ (meter : Addressed). meter.asked ≡ None) meters

-- nor is the meter of the readout
pub record AllAreSelected (a : Addressing) : Type 0 where
  pub meters : AreSelected a.selected.now
  pub readout : a.address ≡ None

-- WHERE NONE IS READ BY ITS ADDRESS, the talk is one on the bus itself.
abbrev pub ReaddressesNothing : {B : Type 0} → Bus B → Type 0
ReaddressesNothing g = LetsThrough g addressing AllAreSelected (λ a given. ⊤)

-- ---- a meter is read by its address

-- what was sent to a bus, and what it gives
pub record Recorded : Type 0 where
  pub sent : List (List ℕ)
  pub given : List (List ℕ)

-- a bus that keeps what is sent, and gives these answers, one after the other
abbrev pub recording_bus : Bus Recorded
recording_bus = record {
  lost = λ bus. false;
  waits_left = λ bus. 0;
  sends = λ old request new. new ≡ record old { sent = old.sent ++ (request ∷ []) };
  opens = λ old request new. new ≡ record old { sent = old.sent ++ (request ∷ []) };
  waits = λ old new. new ≡ old;
  gives = λ old answer new. old ≡ record new { given = answer ∷ new.given };
  late = λ bus. 0;
}

-- these meters, before a readout begins or after it
abbrev pub at_rest : Recorded → List Addressed → Option ℕ → Talk (Filtered Recorded Addressing)
at_rest bus meters address = record {
  bus = record {
    bus = bus;
    filter = record { selected = record { ref_ptr = (0, 0); ghost_name = 0; now = meters }; address = address };
    withholds = false;
  };
  request = Quiet;
  said = false;
}

-- the first request for a telegram of the meter at this address
abbrev pub first_request : ℕ → List ℕ
first_request address = spelling (request_to true address)

-- a telegram of this meter that has this primary address
pub record IsFrom (meter : Identity) (address : ℕ) (telegram : List ℕ) : Type 0 where
  pub sent : Parsed
  pub in_frame : telegram_in (frame_of telegram) ≡ Some sent
  pub is_its : sent.header.identity ≡ meter
  pub sender : sender_in (frame_of telegram) ≡ Some address

-- BY THE ADDRESS that is asked the first of two meters is read, the other one by selection: so the bus gets the reset and
-- the request of that address, then a selection and the request of who is selected. Of both the address is noted that
-- their telegrams have.
pub record IsReadByAddress (one other : Identity) (asked known known_other : ℕ) (first second : List ℕ)
    (answer : LineHeard) : Type 0 where
  pub talk : Talks (filtered_over recording_bus addressing) 1
      (at_rest (record { sent = []; given = acknowledged ∷ first ∷ acknowledged ∷ second ∷ [] })
      (record { meter = one; known = None; asked = Some asked }
      ∷ record { meter = other; known = None; asked = None } ∷ []) None)
      (tried (first_question one None) acknowledged Again (tried (first_request selected) first answer
      (tried (first_question other None) acknowledged Again (tried (first_request selected) second answer []))))
      (at_rest (record {
        sent = spelling (reset_to asked) ∷ first_request asked ∷ first_question other None
            ∷ first_request selected ∷ [];
        given = [];
      })
      (record { meter = one; known = Some known; asked = Some asked }
      ∷ record { meter = other; known = Some known_other; asked = None } ∷ []) None)
