-- Setting a primary address (EN 13757-3, bus address; EN 13757-2, SND_NKE, SND_UD and REQ_UD2).
use Rattle.std.specs.Prelude.{◌≡◌, ◌≢◌, ℕ, Bool, true, false, List, [], ◌∷◌, ◌++◌, codes}
use Rattle.std.specs.Prelude.{Option, None, Some, if◌then◌else◌}
use Rattle.dc_address.specs.Mask.{mask_of, mask_wire}
use Rattle.dc_address.specs.Text.{text_of}
use Rattle.dc_address.specs.declared.identity.Identity.{Identity}
use Rattle.mbdc_bus.specs.Windows.{Insists, most_tries}
use Rattle.dc_linkframe.specs.Control.{request_to, reset_to, selected, selection_by, snd_ud}
use Rattle.dc_linkframe.specs.Frame.{FrameSeen, long, spelling}
use Rattle.dc_linkframe.specs.Reading.{frame_of}
use Rattle.mbdc_io.specs.Words.{number_word}
use Rattle.dc_readout.specs.Answer.{is_meter}
use Rattle.dc_search.specs.Answer.{answer_of}
use Rattle.mbdc_installer.specs.Scan.{IsAsked, IsCalled, address_line, is_ack, is_none, sender_at}
use Rattle.mbdc_installer.specs.declared.address.Target.{Target}
use Rattle.mbdc_installer.specs.declared.address.Target.TheVariants.{Address, Meter}
use Rattle.mbdc_installer.specs.declared.address.Addressing.{Addressing}
use Rattle.mbdc_installer.specs.declared.address.Addressing.TheVariants.{Set, Taken, Nobody, Unclear}
use Rattle.mbdc_installer.specs.declared.address.Addressing.TheVariants.{Unconfirmed}

-- SND_UD, data for the meter: this one record, the bus address. Its frame count bit is 0, since that of the
-- request before it was 1.
abbrev pub change_to : ℕ → ℕ → List ℕ
change_to from to = spelling (long snd_ud from 0x51 (0x01 ∷ 0x7A ∷ to ∷ []))

-- ---- the steps

-- WHETHER AN ADDRESS IS FREE: a reset and a request are met by silence.
pub data IsFree {B : Type 0} (asks_all : B → List ℕ → List ℕ → B → Type 0) (address : ℕ) (old : B)
    : Bool → B → Type 0 where
  answers_reset : {new : B} (answer : List ℕ) → answer ≢ []
      → Insists asks_all (spelling (reset_to address)) most_tries old answer new
      → IsFree asks_all address old false new
  is_requested : {between new : B} {free : Bool} (telegram : List ℕ)
      → Insists asks_all (spelling (reset_to address)) most_tries old [] between
      → Insists asks_all (spelling (request_to true address)) most_tries between telegram new
      → free ≡ is_none telegram → IsFree asks_all address old free new

-- the frame after which the meter answers: a reset of its address, or its selection
abbrev pub call_to : Target → FrameSeen
call_to (Address address) = reset_to address
call_to (Meter meter) = selection_by (mask_wire (mask_of meter))

-- the address at which it answers then
abbrev pub place_of : Target → ℕ
place_of (Address address) = address
place_of (Meter meter) = selected

abbrev pub if_is : Identity → Option Identity → Option Identity
if_is meter None = None
if_is meter (Some sender) = if is_meter meter sender then Some meter else None

-- the meter of a telegram: it comes from the address, or the selected meter sends it
abbrev pub sender_of : Target → List ℕ → Option Identity
sender_of (Address address) telegram = sender_at address telegram
sender_of (Meter meter) telegram = if_is meter (answer_of telegram)

-- the one meter that acknowledges, and whose telegram says who it is
abbrev pub one_at : Target → List ℕ → List ℕ → Option Identity
one_at target answer telegram =
    if is_ack (frame_of answer) then sender_of target telegram else None

-- what came of a change, by the meter that answers at the new address
abbrev pub confirmed : Identity → Option Identity → Addressing
confirmed meter None = Unconfirmed meter
confirmed meter (Some sender) =
    if is_meter meter sender then Set meter else Unconfirmed meter

-- THE CHANGE: the meter gets the record, and then the new address is asked for its meter.
pub record IsChanged {B : Type 0} (asks asks_all : B → List ℕ → List ℕ → B → Type 0)
    (from to : ℕ) (meter : Identity) (old : B) (outcome : Addressing) (new : B) : Type 0 where
  pub acknowledgement : List ℕ
  pub between : B
  pub sent : asks old (change_to from to) acknowledgement between
  pub answer : List ℕ
  pub telegram : List ℕ
  pub asked : IsAsked asks_all to between answer telegram new
  pub outcome_is : outcome ≡ confirmed meter (sender_at to telegram)

-- it is called as the target says
abbrev pub IsReached : {B : Type 0} → (B → List ℕ → List ℕ → B → Type 0) → Target → B → List ℕ → List ℕ
    → B → Type 0
IsReached asks_all target = IsCalled asks_all (spelling (call_to target)) (place_of target)

-- SETTING AN ADDRESS, in order, and nothing else goes out. The change follows only where the new address is
-- free, one meter acknowledges, and its telegram says that it is the one.
pub data IsAddressed {B : Type 0} (asks asks_all : B → List ℕ → List ℕ → B → Type 0)
    (target : Target) (to : ℕ) (old : B) : Addressing → B → Type 0 where
  is_taken : {new : B} → IsFree asks_all to old false new
      → IsAddressed asks asks_all target to old Taken new
  is_nobody : {free new : B} (telegram : List ℕ) → IsFree asks_all to old true free
      → IsReached asks_all target free [] telegram new
      → IsAddressed asks asks_all target to old Nobody new
  is_unclear : {free new : B} (answer telegram : List ℕ) → IsFree asks_all to old true free
      → IsReached asks_all target free answer telegram new → answer ≢ []
      → one_at target answer telegram ≡ None
      → IsAddressed asks asks_all target to old Unclear new
  is_one : {free named new : B} {meter : Identity} {outcome : Addressing}
      (answer telegram : List ℕ) → IsFree asks_all to old true free
      → IsReached asks_all target free answer telegram named
      → one_at target answer telegram ≡ Some meter
      → IsChanged asks asks_all (place_of target) to meter named outcome new
      → IsAddressed asks asks_all target to old outcome new

-- ---- the text

abbrev pub address_word : ℕ → List ℕ
address_word address = codes "address" ++ number_word address

abbrev pub elsewhere : Identity → List ℕ
elsewhere meter = text_of meter ++ codes " doesn't answer there\n"

-- how a meter is reached
abbrev pub target_word : Target → List ℕ
target_word (Address address) = address_word address
target_word (Meter meter) = text_of meter

abbrev pub addressing_text : Target → ℕ → Addressing → List ℕ
addressing_text target to (Set meter) = address_line to (Some meter)
addressing_text target to Taken = address_word to ++ codes " is taken: somebody answers there\n"
addressing_text target to Nobody = target_word target ++ codes ": no meter acknowledges there\n"
addressing_text target to Unclear =
    target_word target ++ codes ": several meters answer, or one that can't be read\n"
addressing_text target to (Unconfirmed meter) =
    address_word to ++ (codes ": " ++ elsewhere meter)
