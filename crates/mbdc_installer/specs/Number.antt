-- The one meter with an identification number (EN 13757-3, selection with wildcards; EN 13757-2, REQ_UD2).
use Rattle.std.specs.Prelude.{◌≡◌, ℕ, ◌-◌, ◌%◌, ◌<◌, Bool, true, false, ◌&&◌, List, [], ◌++◌}
use Rattle.std.specs.Prelude.{codes, map, nat_eq, Option, None, Some, if◌then◌else◌}
use Rattle.std.specs.List.{starts_with}
use Rattle.dc_address.specs.Mask.{mask_wire}
use Rattle.mbdc_bus.specs.Windows.{Reads}
use Rattle.dc_address.specs.Text.{text_of}
use Rattle.dc_address.specs.declared.identity.Identity.{Identity}
use Rattle.dc_linkframe.specs.Control.{request_to, selected, selection_by}
use Rattle.dc_linkframe.specs.Frame.{FrameSeen, spelling}
use Rattle.dc_readout.specs.Misses.{and_missed, is_noise, is_silent, misses_of}
use Rattle.dc_readout.specs.declared.misses.misses.Misses.{Misses}
use Rattle.dc_search.specs.Answer.{answer_of}
use Rattle.dc_search.specs.Prefix.{mask_of_digits}
use Rattle.mbdc_installer.specs.declared.number.Numbered.{Numbered}
use Rattle.mbdc_installer.specs.declared.number.Numbered.TheVariants.{One, Shared, Nobody}

-- maximum number of selections
abbrev pub most_tries : ℕ
most_tries = 3

-- the digit of its code in ASCII
abbrev pub digit_of : ℕ → ℕ
digit_of code = (code - 48) % 10

-- the selection of all meters with this number
abbrev pub selection_to : List ℕ → FrameSeen
selection_to digits = selection_by (mask_wire (mask_of_digits (map digit_of digits)))

-- the meter is printed with these digits first
abbrev pub has_number : List ℕ → Identity → Bool
has_number digits meter = starts_with nat_eq (text_of meter) digits

abbrev pub having : List ℕ → Option Identity → Option Identity
having digits None = None
having digits (Some meter) = if has_number digits meter then Some meter else None

-- the meter of a telegram, if it has the number
abbrev pub with_number : List ℕ → List ℕ → Option Identity
with_number digits telegram = having digits (answer_of telegram)

-- without a meter: the number is shared where each try collided
abbrev pub ending : Bool → Misses → Numbered
ending true misses = Shared misses
ending false misses = Nobody misses

-- THE TRIES THAT ARE LEFT, after those that brought this. A selection that bytes came to is followed by a request. A
-- meter is found where one telegram comes, and the meter has the number.
pub data Tries {B : Type 0} (asks_all : B → List ℕ → List ℕ → B → Type 0) (digits : List ℕ)
    : ℕ → Bool → Misses → B → Numbered → B → Type 0 where
  are_over : {collided : Bool} {misses : Misses} {bus : B}
      → Tries asks_all digits 0 collided misses bus (ending collided misses) bus
  meets_silence : {left : ℕ} {collided : Bool} {misses : Misses} {old between new : B}
      {found : Numbered} (answer : List ℕ) → 0 < left → is_silent answer ≡ true
      → asks_all old (spelling (selection_to digits)) answer between
      → Tries asks_all digits (left - 1) false (and_missed answer misses) between found new
      → Tries asks_all digits left collided misses old found new
  finds : {left : ℕ} {collided : Bool} {misses : Misses} {old between new : B} {meter : Identity}
      (answer telegram : List ℕ) → 0 < left → is_silent answer ≡ false
      → asks_all old (spelling (selection_to digits)) answer between
      → Reads asks_all (spelling (request_to true selected)) between telegram new
      → with_number digits telegram ≡ Some meter
      → Tries asks_all digits left collided misses old (One meter) new
  collides : {left : ℕ} {collided : Bool} {misses : Misses} {old between asked new : B}
      {found : Numbered} (answer telegram : List ℕ) → 0 < left → is_silent answer ≡ false
      → asks_all old (spelling (selection_to digits)) answer between
      → Reads asks_all (spelling (request_to true selected)) between telegram asked
      → with_number digits telegram ≡ None
      → Tries asks_all digits (left - 1) (collided && is_noise telegram)
      (and_missed telegram misses) asked found new
      → Tries asks_all digits left collided misses old found new

-- THE ONE METER WITH A NUMBER is asked for, and nothing else goes out.
abbrev pub IsFound : {B : Type 0} → (B → List ℕ → List ℕ → B → Type 0) → List ℕ → B → Numbered
    → B → Type 0
IsFound asks_all digits old found new =
    Tries asks_all digits most_tries true (misses_of []) old found new

-- ---- the text

-- a text between two others
unfoldable pub between : List ℕ → List ℕ → List ℕ → List ℕ
between before text after = before ++ text ++ after

abbrev pub unfound_text : List ℕ → Bool → List ℕ
unfound_text digits true = between (codes "SHARED ") digits (codes "\n")
unfound_text digits false = codes "FAILED 1 NoAnswer\n"
