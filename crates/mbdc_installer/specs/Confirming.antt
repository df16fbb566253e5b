-- Who answers a wildcard, where several meters may answer in step (EN 13757-2, the current of a space wins over a mark, so
-- a line shows the AND of what meters send at once; EN 13757-3, selection with wildcards).
use Rattle.std.specs.Prelude.{◌≡◌, ◌≢◌, ◌<◌, ℕ, ◌+◌, ◌-◌, ◌/◌, ◌%◌, Bool, true, false, not, ◌&&◌, ◌||◌, ◌==◌}
use Rattle.std.specs.Prelude.{List, [], Option, None, Some, if◌then◌else◌, slice_index, nat_lt}
use Rattle.std.specs.Prelude.{Contains, bit_and, count_by, zip}
use Rattle.dc_address.specs.Mask.{MaskParts, are_sent, matches, mask_at, mask_of, mask_wire, with_digit}
use Rattle.dc_address.specs.Text.{text_of}
use Rattle.dc_address.specs.declared.identity.Identity.{Identity}
use Rattle.dc_linkframe.specs.Control.{selection_by}
use Rattle.dc_linkframe.specs.Frame.{spelling}
use Rattle.dc_linkframe.specs.Reading.{frame_of}
use Rattle.dc_readout.specs.Misses.{is_silent}
use Rattle.mbdc_bus.specs.Windows.{Insists, most_tries}
use Rattle.mbdc_installer.specs.Number.{digit_of}
use Rattle.mbdc_installer.specs.Scan.{is_ack}
use Rattle.mbdc_installer.specs.declared.confirming.Confirmed.{Confirmed}

-- ---- who can hide behind whom

-- behind a digit a meter hides that has all its bits, and more
abbrev pub can_hide : ℕ → ℕ → Bool
can_hide own digit = not (digit == own) && (bit_and digit own == own)

-- whether a digit of a selection's eight bytes is open: F, two digits a byte, the least significant byte first
abbrev pub is_open : List ℕ → ℕ → Bool
is_open wire place =
    if place % 2 == 0 then slice_index wire (3 - place / 2) / 16 == 15
    else (slice_index wire (3 - place / 2) % 16 == 15)

-- maker, version and device type are the same
abbrev pub is_of_type : Identity → Identity → Bool
is_of_type meter other =
    meter.maker == other.maker && (meter.version == other.version && (meter.kind == other.kind))

-- in how many bytes the first has a bit that the other one lacks
abbrev pub differing : List ℕ → List ℕ → ℕ
differing bytes other = count_by (λ p. not (bit_and p.0 p.1 == p.0)) (zip bytes other)

-- number of bytes in which telegrams of one type differ whose meters aren't in step
abbrev pub many : ℕ
many = 16

-- A METER COULD BE IN STEP with others of its type, unless the last telegram is of that type, and has other data.
abbrev pub could_be_in_step : Option Confirmed → Identity → List ℕ → Bool
could_be_in_step None meter telegram = true
could_be_in_step (Some last) meter telegram =
    not (is_of_type last.meter meter) || nat_lt (differing telegram last.telegram) many

-- ---- the questions

-- the selection by a mask with one more digit fixed
abbrev pub selection_with : MaskParts → ℕ → ℕ → List ℕ
selection_with mask place digit = spelling (selection_by (mask_wire (with_digit mask place digit)))

-- the selection of one identity
abbrev pub selection_of : Identity → List ℕ
selection_of meter = spelling (selection_by (mask_wire (mask_of meter)))

-- A DIGIT of a place is selected where a meter with it could hide. True: nobody answers.
pub data AsksDigit {B : Type 0} (asks_all : B → List ℕ → List ℕ → B → Type 0) (mask : MaskParts)
    (place own digit : ℕ) (old : B) (nobody : Bool) (new : B) : Type 0 where
  is_harmless : can_hide own digit ≡ false → nobody ≡ true → new ≡ old
      → AsksDigit asks_all mask place own digit old nobody new
  is_selected : (answer : List ℕ) → can_hide own digit ≡ true
      → asks_all old (selection_with mask place digit) answer new → nobody ≡ is_silent answer
      → AsksDigit asks_all mask place own digit old nobody new

-- THE DIGITS of a place from this one on are asked, until somebody answers.
pub data AsksDigits {B : Type 0} (asks_all : B → List ℕ → List ℕ → B → Type 0) (mask : MaskParts)
    (place own : ℕ) : ℕ → B → Bool → B → Type 0 where
  are_over : {digit : ℕ} {old new : B} {nobody : Bool} → digit ≡ 10 → nobody ≡ true → new ≡ old
      → AsksDigits asks_all mask place own digit old nobody new
  go_on : {digit : ℕ} {old between new : B} {is_free nobody : Bool}
      → AsksDigit asks_all mask place own digit old is_free between → is_free ≡ true
      → AsksDigits asks_all mask place own (digit + 1) between nobody new
      → AsksDigits asks_all mask place own digit old nobody new
  have_somebody : {digit : ℕ} {old new : B} {nobody : Bool}
      → AsksDigit asks_all mask place own digit old nobody new → nobody ≡ false
      → AsksDigits asks_all mask place own digit old nobody new

-- A PLACE is asked where the selection leaves it open.
pub data AsksPlace {B : Type 0} (asks_all : B → List ℕ → List ℕ → B → Type 0) (wire : List ℕ)
    (mask : MaskParts) (text : List ℕ) (place : ℕ) (old : B) (nobody : Bool) (new : B) : Type 0 where
  is_fixed : is_open wire place ≡ false → nobody ≡ true → new ≡ old
      → AsksPlace asks_all wire mask text place old nobody new
  is_asked : is_open wire place ≡ true
      → AsksDigits asks_all mask place (digit_of (slice_index text place)) 0 old nobody new
      → AsksPlace asks_all wire mask text place old nobody new

-- THE PLACES from this one on are asked, until somebody answers.
pub data AsksPlaces {B : Type 0} (asks_all : B → List ℕ → List ℕ → B → Type 0) (wire : List ℕ)
    (mask : MaskParts) (text : List ℕ) : ℕ → B → Bool → B → Type 0 where
  are_over : {place : ℕ} {old new : B} {nobody : Bool} → place ≡ 8 → nobody ≡ true → new ≡ old
      → AsksPlaces asks_all wire mask text place old nobody new
  go_on : {place : ℕ} {old between new : B} {is_free nobody : Bool}
      → AsksPlace asks_all wire mask text place old is_free between → is_free ≡ true
      → AsksPlaces asks_all wire mask text (place + 1) between nobody new
      → AsksPlaces asks_all wire mask text place old nobody new
  have_somebody : {place : ℕ} {old new : B} {nobody : Bool}
      → AsksPlace asks_all wire mask text place old nobody new → nobody ≡ false
      → AsksPlaces asks_all wire mask text place old nobody new

-- WHO COULD HIDE behind the meter is asked, if that is due.
pub data AsksHidden {B : Type 0} (asks_all : B → List ℕ → List ℕ → B → Type 0) (wire : List ℕ)
    (meter : Identity) (is_due : Bool) (old : B) (nobody : Bool) (new : B) : Type 0 where
  is_undue : is_due && are_sent wire ≡ false → nobody ≡ true → new ≡ old
      → AsksHidden asks_all wire meter is_due old nobody new
  is_asked : is_due && are_sent wire ≡ true
      → AsksPlaces asks_all wire (mask_at wire) (text_of meter) 0 old nobody new
      → AsksHidden asks_all wire meter is_due old nobody new

-- WHO ANSWERED IS CONFIRMED: nobody answers who could hide behind it, and the meter answers its whole identity.
pub data Confirms {B : Type 0} (asks_all : B → List ℕ → List ℕ → B → Type 0) (wire : List ℕ)
    (meter : Identity) (is_due : Bool) (old : B) (is_so : Bool) (new : B) : Type 0 where
  has_hidden : AsksHidden asks_all wire meter is_due old is_so new → is_so ≡ false
      → Confirms asks_all wire meter is_due old is_so new
  is_selected : {between : B} {nobody : Bool} (answer : List ℕ)
      → AsksHidden asks_all wire meter is_due old nobody between → nobody ≡ true
      → Insists asks_all (selection_of meter) most_tries between answer new
      → is_so ≡ is_ack (frame_of answer) → Confirms asks_all wire meter is_due old is_so new

-- ---- what is known of a meter that is confirmed

-- A LINE WITH THESE METERS: each that a selection matches is heard, and an acknowledgement comes of one that it matches.
pub record HasMeters {B : Type 0} (asks_all : B → List ℕ → List ℕ → B → Type 0) (meters : List Identity) : Type 0 where
  pub each : (old new : B) (mask : MaskParts) (answer : List ℕ)
      → asks_all old (spelling (selection_by (mask_wire mask))) answer new
      → (m : Identity) → Contains meters m → matches mask m ≡ true → answer ≢ []
  pub one : (old new : B) (mask : MaskParts) (answer : List ℕ)
      → asks_all old (spelling (selection_by (mask_wire mask))) answer new → is_ack (frame_of answer) ≡ true
      → (m : Identity) × Contains meters m × (matches mask m ≡ true)

-- THE METER IS THERE: one is that answers its whole identity. AND NONE HIDES BEHIND IT: of those that the selection
-- matches none has in an open place a digit with all bits of its own digit, and more.
pub record IsKnown (meters : List Identity) (wire : List ℕ) (meter : Identity) (is_due : Bool) : Type 0 where
  pub there : (m : Identity) × Contains meters m × (matches (mask_of meter) m ≡ true)
  pub alone : (is_due && are_sent wire ≡ true) → (place digit : ℕ) → place < 8 → is_open wire place ≡ true
      → digit < 10 → can_hide (digit_of (slice_index (text_of meter) place)) digit ≡ true
      → (m : Identity) → Contains meters m → matches (with_digit (mask_at wire) place digit) m ≡ false
