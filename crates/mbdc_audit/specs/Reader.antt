-- What the reader makes of a line: the house with what it says more (this product).
use Rattle.std.specs.Prelude.{◌≡◌, ◌<◌, ⊤, ℕ, ◌+◌, Bool, true, false, List, [], length, map, take, drop, Some, All}
use Rattle.mbdc_io.specs.Lines.{lines_of}
use Rattle.mbdc_audit.specs.declared.fault.Stop.{Stop}
use Rattle.mbdc_audit.specs.declared.fault.Stop.TheVariants as stop
use Rattle.mbdc_audit.specs.declared.line.Line.{Line}
use Rattle.mbdc_audit.specs.declared.line.Word.{Word}
use Rattle.mbdc_audit.specs.declared.line.Word.TheVariants as word
use Rattle.mbdc_audit.specs.House.{House, Number, Run, Value}
use Rattle.mbdc_audit.specs.Line.{IsAsked}
use Rattle.mbdc_audit.specs.Published.{IsUnit, MayAsk, MayAskOf}
use Rattle.mbdc_audit.specs.Sound.{IsAt, IsBuilt}
use Rattle.mbdc_audit.specs.File.{Adds, AskedOf, Asks, Counts, Follows, HasUnit, IsFed, IsSource, IsWithin, Steps, all_opened, bare_house, empty}
use Rattle.mbdc_audit.specs.File.{is_of_place, text_at, use_place}
use Rattle.mbdc_audit.specs.declared.uses.Unit.{Unit}
use Rattle.mbdc_audit.specs.declared.uses.Unit.TheVariants.{Kwh, Smallest}
use Rattle.mbdc_audit.specs.Uses.{unit_named}
use Rattle.mbdc_audit.specs.View.{beside_count}

-- words of numbers of the house
abbrev pub is_of_house : Word → Bool
is_of_house word.OfUser = true
is_of_house word.OfFlat = true
is_of_house word.OfHouse = true
is_of_house word.Mean = true
is_of_house word.Change = true
is_of_house word.Weather = true
is_of_house word.Carbon = true
is_of_house word.Cost = true
is_of_house _ = false

-- a line says nothing that may be next
abbrev pub AddsNothing : House → Line → Type 0
AddsNothing h l = (new : House) → Adds h l new → ⊥

-- a fault of the file: not of memory, nor of what is written to
abbrev pub IsFault : Stop → Type 0
IsFault (stop.Fault fault) = ⊤
IsFault _ = ⊥

abbrev pub CantFollow : ℕ → List ℕ → House → Type 0
CantFollow stage text h = (stage' : ℕ) (h' : House) → Follows stage text h stage' h' → ⊥

-- A FILE SPELLS a house, the feed after its last line too; where asking isn't allowed, no line asks
pub record Spells (asks : Bool) (input : List ℕ) (h : House) : Type 0 where
  pub fed : IsFed input
  pub steps : Steps 0 empty (lines_of input) 12 (bare_house h)
  pub plain : asks ≡ false → All (λ line. IsAsked line → ⊥) (lines_of input)

-- A FILE IS READ as a house
pub record IsRead (asks : Bool) (input : List ℕ) (h : House) : Type 0 where
  pub spells : Spells asks input h
  pub within : IsWithin h
  pub built : IsBuilt h
  pub of_places : All (λ o. All (λ n. MayAskOf h o.place o.window n.key) o.window.numbers) (all_opened h)
  pub of_house : All (λ n. MayAsk h n.key) h.numbers

-- ---- parts of a line

-- a value of a run
abbrev pub IsValueOf : Line → Run → Value → Type 0
IsValueOf l r v = Counts v.run 0 l × IsSource v v.source l × IsAt r v v.source × HasUnit v.source

-- the text and what is beside it, and no more
pub record IsTextOf (l : Line) (n : Number) : Type 0 where
  pub word_is : n.key.word ≡ l.word
  pub text_is : n.text ≡ text_at l.text l
  pub beside_is : take (length n.beside) (drop (l.text + 1) (map (λ f. f.now) l.fields)) ≡ n.beside
  pub beside_all : length n.beside ≡ beside_count l.word
  pub blank : (n.key.other ≡ 0) × (n.key.user ≡ 0) × (n.key.flat ≡ []) × (n.key.unit ≡ Smallest) × (n.key.size ≡ 1)

-- the unit of a number of the house, and the other span of one that has two
abbrev pub IsUnitOf : Word → House → ℕ → Unit → Line → Type 0
IsUnitOf word.Weather h used unit l = unit ≡ Kwh
IsUnitOf word.Carbon h used unit l = unit ≡ Kwh
IsUnitOf w h used unit l = (unit_named (text_at (use_place w + 1) l) ≡ Some unit) × IsUnit h used unit

abbrev pub IsOther : Word → House → ℕ → Line → Type 0
IsOther word.Change h n l = Counts n 1 l × (n < length h.spans)
IsOther word.Weather h n l = Counts n 1 l × (n < length h.spans)
IsOther _ h n l = n ≡ 0

-- a line asks for a number, and may
abbrev pub IsMade : House → Line → Number → Type 0
IsMade h l n = Asks h n l × AskedOf (is_of_place n.key.word) h n

-- words of lines
abbrev pub is_fact : Word → Bool
is_fact word.Factor = true
is_fact word.Emissions = true
is_fact word.Degrees = true
is_fact word.Price = true
is_fact word.Average = true
is_fact _ = false

abbrev pub is_value : Word → Bool
is_value word.Read = true
is_value word.Stored = true
is_value word.Ended = true
is_value word.Zero = true
is_value word.Hand = true
is_value word.Estimated = true
is_value word.First = true
is_value word.Last = true
is_value _ = false
