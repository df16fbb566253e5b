-- Meters that answer with a frame of another CI than 72, and the wildcards that it closes (EN 13757-3, CI field; EN 13757-2,
-- the current of a space wins over a mark, so a line shows the AND of what meters send at once).
use Rattle.std.specs.Prelude.{◌≡◌, ◌≢◌, ◌<◌, ℕ, ◌+◌, ◌&&◌, ◌||◌, ◌==◌, Bool, true, false, not, List, ◌++◌, codes}
use Rattle.std.specs.Prelude.{Option, None, Some, if◌then◌else◌, Contains, length, take, get_or, slice_index, nat_le, bit_and}
use Rattle.std.specs.List.{flat_map, list_any}
use Rattle.std.specs.Str.{bytes_eq}
use Rattle.dc_address.specs.Mask.{MaskParts, mask_wire, matches}
use Rattle.dc_address.specs.declared.identity.Identity.{Identity}
use Rattle.dc_linkframe.specs.Control.{is_rsp_ud, selection_by, variable_data}
use Rattle.dc_linkframe.specs.Frame.{FrameSeen, ack, short, long, spelling}
use Rattle.dc_linkframe.specs.Reading.{frame_of}
use Rattle.dc_search.specs.Answer.{answer_of}
use Rattle.mbdc_bus.specs.Windows.{Insists, data_request, most_tries, noise}
use Rattle.mbdc_installer.specs.Confirming.{is_open}
use Rattle.mbdc_installer.specs.declared.other.Format.{Format}
use Rattle.mbdc_installer.specs.declared.other.Looked.{Looked}
use Rattle.mbdc_installer.specs.declared.other.Looked.TheVariants.{Closed, Kept}
use Rattle.mbdc_installer.specs.declared.other.Other.{Other}
use Rattle.mbdc_io.specs.Hex.{upper_pair}

-- CI of the fixed data structure, which begins with the meter's number
abbrev pub fixed_data : ℕ
fixed_data = 0x73

abbrev pub number_in : ℕ → List ℕ → Option (List ℕ)
number_in ci body = if ci == fixed_data && nat_le 4 (length body) then Some (take 4 body) else None

-- what a response says that isn't of CI 72
abbrev pub format_in : Option FrameSeen → Option Format
format_in None = None
format_in (Some ack) = None
format_in (Some (short control address)) = None
format_in (Some (long control address ci body)) = if is_rsp_ud control && not (ci == variable_data)
    then Some (record { ci = ci; number = number_in ci body }) else None

unfoldable pub format_of : List ℕ → Option Format
format_of bytes = format_in (frame_of bytes)

-- A CI with a bit that 72 lacks isn't the AND of several answers of which one is of CI 72.
abbrev pub is_foreign : ℕ → Bool
is_foreign ci = not (bit_and ci variable_data == ci)

-- WHAT CLOSES A WILDCARD: such a CI; where no digit is open, any. A search fixes the first digits first.
abbrev pub can_close : List ℕ → ℕ → Bool
can_close wire ci = is_foreign ci || not (is_open wire 7)

abbrev pub if_closing : List ℕ → Option Format → Option Format
if_closing wire None = None
if_closing wire (Some format) = if can_close wire format.ci then Some format else None

-- what an answer says, if it closes the wildcard of these eight bytes
abbrev pub closing : List ℕ → List ℕ → Option Format
closing wire answer = if_closing wire (format_of answer)

-- WHO WAS SELECTED IS ASKED: a frame that closes the wildcard comes twice; or what came is kept, noise where another
-- one came the second time.
pub data Looks {B : Type 0} (asks_all : B → List ℕ → List ℕ → B → Type 0) (wire : List ℕ) (old : B)
    (looked : Looked) (new : B) : Type 0 where
  is_kept : (answer : List ℕ) → closing wire answer ≡ None
      → Insists asks_all data_request most_tries old answer new → looked ≡ Kept answer
      → Looks asks_all wire old looked new
  comes_twice : {between : B} (format : Format) (first again : List ℕ)
      → closing wire first ≡ Some format → closing wire again ≡ Some format
      → Insists asks_all data_request most_tries old first between
      → Insists asks_all data_request most_tries between again new → looked ≡ Closed format
      → Looks asks_all wire old looked new
  differs : {between : B} (format : Format) (first again : List ℕ)
      → closing wire first ≡ Some format → closing wire again ≢ Some format
      → Insists asks_all data_request most_tries old first between
      → Insists asks_all data_request most_tries between again new → looked ≡ Kept noise
      → Looks asks_all wire old looked new

-- ---- what is known of a wildcard that is closed

-- what came has in each byte only bits that a telegram has there
pub record HasBitsOf (heard own : List ℕ) : Type 0 where
  pub bits : (place : ℕ) → bit_and (get_or heard place 0) (get_or own place 0) ≡ get_or heard place 0
  pub are_bytes : (place : ℕ) → get_or heard place 0 < 256
  pub own_bytes : (place : ℕ) → get_or own place 0 < 256

-- A LINE WITH THESE METERS OF CI 72: where a selection matches one, a frame that comes to the request for data is its
-- telegram, or the AND of that and others that came in step. Answers that come out of step are no frame.
pub record AnswersInStep {B : Type 0} (asks_all : B → List ℕ → List ℕ → B → Type 0) (meters : List Identity)
    : Type 0 where
  pub telegram : (old between new : B) (mask : MaskParts) (answer heard : List ℕ) (frame : FrameSeen)
      → asks_all old (spelling (selection_by (mask_wire mask))) answer between
      → Insists asks_all data_request most_tries between heard new → frame_of heard ≡ Some frame
      → (m : Identity) → Contains meters m → matches mask m ≡ true
      → (own : List ℕ) × (answer_of own ≡ Some m) × HasBitsOf heard own

-- NO METER OF CI 72 is behind a wildcard that is closed, while a digit is open.
abbrev pub HidesNone : {B : Type 0} → (B → List ℕ → List ℕ → B → Type 0) → List Identity → Type 0
HidesNone {B} asks_all meters = (mask : MaskParts) (format : Format) (answer : List ℕ) (old between new : B)
    → asks_all old (spelling (selection_by (mask_wire mask))) answer between
    → Looks asks_all (mask_wire mask) between (Closed format) new → is_open (mask_wire mask) 7 ≡ true
    → (m : Identity) → Contains meters m → matches mask m ≡ false

-- ---- such a wildcard exists

-- a bus that only counts what it is asked
abbrev pub Counted : ℕ → List ℕ → List ℕ → ℕ → Type 0
Counted old request answer new = new ≡ old + 1

-- a meter whose telegrams have no header (CI 78) closes any wildcard: it was asked twice
abbrev pub IsClosedOnce : List ℕ → Type 0
IsClosedOnce wire = Looks Counted wire 0 (Closed (record { ci = 0x78; number = None })) 2

-- ---- what is noted

-- the greatest number of frames that are noted
abbrev pub most_others : ℕ
most_others = 250

-- whether the wildcard of these eight bytes is closed
abbrev pub is_closed : List ℕ → List Other → Bool
is_closed wire others = list_any (λ other. bytes_eq other.wire wire) others

-- ---- the text

-- the eight digits of four bytes, the last byte first
unfoldable pub digits_of : List ℕ → List ℕ
digits_of bytes = upper_pair (slice_index bytes 3) ++ (upper_pair (slice_index bytes 2)
    ++ (upper_pair (slice_index bytes 1) ++ upper_pair (slice_index bytes 0)))

-- the number that was sent, if one was, and the end of a line
abbrev pub ending : Option (List ℕ) → List ℕ
ending None = codes "\n"
ending (Some number) = codes " " ++ (digits_of number ++ codes "\n")

abbrev pub other_line : Other → List ℕ
other_line other = codes "OTHER "
    ++ (digits_of other.wire ++ (codes " CI " ++ (upper_pair other.format.ci ++ ending other.format.number)))

-- THE LINES, one for each wildcard that was closed
abbrev pub others_text : List Other → List ℕ
others_text others = flat_map other_line others
