-- The lines of a script (this product): words with single spaces, or nothing.
use Rattle.std.specs.Prelude.{◌≡◌, ℕ, ◌≤◌, List, [], ◌∷◌, ◌++◌, codes, length, Some}
use Rattle.std.specs.List.{join_with_byte}
use Rattle.std.specs.Fmt.{decimal}
use Rattle.dc_address.specs.Text.{text_of}
use Rattle.dc_address.specs.declared.identity.Identity.{Identity}
use Rattle.mbdc_change.specs.Fields.{IsOfBytes}
use Rattle.mbdc_change.specs.Fields.{last_moment}
use Rattle.mbdc_io.specs.Hex.{bytes_of}
use Rattle.mbdc_io.specs.Lines.{longest_input_line}
use Rattle.dc_search.specs.Found.{greatest_budget}
use Rattle.dc_poller.specs.declared.script_line.ScriptLine.{ScriptLine}
use Rattle.dc_poller.specs.declared.script_line.ScriptLine.TheVariants.{Nothing, At, Start, Ask}
use Rattle.dc_poller.specs.declared.script_line.ScriptLine.TheVariants.{Hear, Commit, Office, Poll}
use Rattle.dc_poller.specs.declared.script_line.ScriptLine.TheVariants.{Search}

-- what a line asks for, without where its bytes lie
pub data LineSeen : Type 0 where
  nothing : LineSeen
  at : ℕ → LineSeen
  start : ℕ → Identity → LineSeen
  ask : ℕ → LineSeen
  hear : ℕ → List ℕ → LineSeen
  commit : LineSeen
  office : List ℕ → LineSeen
  poll : ℕ → Identity → LineSeen
  search : ℕ → LineSeen

abbrev pub seen : ScriptLine → LineSeen
seen Nothing = nothing
seen (At moment) = at moment.seconds
seen (Start line meter) = start line meter
seen (Ask line) = ask line
seen (Hear line answer) = hear line answer.now
seen Commit = commit
seen (Office line) = office line.now
seen (Poll line meter) = poll line meter
seen (Search budget) = search budget

-- it is no search
abbrev pub IsPlain : LineSeen → Type 0
IsPlain nothing = Unit {0}
IsPlain (at moment) = Unit {0}
IsPlain (start line meter) = Unit {0}
IsPlain (ask line) = Unit {0}
IsPlain (hear line answer) = Unit {0}
IsPlain commit = Unit {0}
IsPlain (office line) = Unit {0}
IsPlain (poll line meter) = Unit {0}
IsPlain (search budget) = ⊥

-- the greatest number of a bus line
abbrev pub greatest_line : ℕ
greatest_line = 255

-- its numbers are within their bounds
abbrev pub HasBounds : LineSeen → Type 0
HasBounds nothing = Unit {0}
HasBounds (at moment) = moment ≤ last_moment
HasBounds (start line meter) = (line ≤ greatest_line) × IsOfBytes meter
HasBounds (ask line) = line ≤ greatest_line
HasBounds (hear line answer) = line ≤ greatest_line
HasBounds commit = Unit {0}
HasBounds (office line) = Unit {0}
HasBounds (poll line meter) = (line ≤ greatest_line) × IsOfBytes meter
HasBounds (search budget) = budget ≤ greatest_budget

-- what follows the number of a line: nothing for silence, else a space and the answer's bytes in hex digits of
-- either case
abbrev pub SpellsAnswer : List ℕ → List ℕ → Type 0
SpellsAnswer [] behind = behind ≡ []
SpellsAnswer (byte ∷ bytes) behind =
    (digits : List ℕ) × (bytes_of digits ≡ Some (byte ∷ bytes)) × (behind ≡ 32 ∷ digits)

pub record SpellsHear (text : List ℕ) (line : ℕ) (answer : List ℕ) : Type 0 where
  pub behind : List ℕ
  pub answer_is : SpellsAnswer answer behind
  pub text_is : text ≡ join_with_byte 32 (codes "HEAR" ∷ decimal line ∷ []) ++ behind

abbrev pub Spells : List ℕ → LineSeen → Type 0
Spells text nothing = text ≡ []
Spells text (at moment) = text ≡ join_with_byte 32 (codes "AT" ∷ decimal moment ∷ [])
Spells text (start line meter) = text
    ≡ join_with_byte 32 (codes "START" ∷ decimal line ∷ text_of meter ∷ [])
Spells text (ask line) = text ≡ join_with_byte 32 (codes "ASK" ∷ decimal line ∷ [])
Spells text (hear line answer) = SpellsHear text line answer
Spells text commit = text ≡ codes "COMMIT"
Spells text (office line) = text ≡ join_with_byte 32 (codes "OFFICE" ∷ line ∷ [])
Spells text (poll line meter) = text
    ≡ join_with_byte 32 (codes "POLL" ∷ decimal line ∷ text_of meter ∷ [])
Spells text (search budget) = text ≡ join_with_byte 32 (codes "SEARCH" ∷ decimal budget ∷ [])

-- a line that isn't too long and spells this
pub record IsLineOf (text : List ℕ) (asked : LineSeen) : Type 0 where
  pub fits : length text ≤ longest_input_line
  pub has_bounds : HasBounds asked
  pub spells : Spells text asked
