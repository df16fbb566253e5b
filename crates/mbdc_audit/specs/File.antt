-- When a file of published numbers is right: its lines, followed one by one, make a sound house, whose numbers are the
-- defined ones (this product).
use Rattle.std.specs.Prelude.{◌≡◌, ◌≢◌, ◌≤◌, ◌<◌, ◌⊎◌, ⊤, ℕ, ◌+◌, ◌-◌, Bool, true, false, if◌then◌else◌, codes}
use Rattle.std.specs.Prelude.{List, [], ◌∷◌, ◌++◌, length, map, flat_map, take, drop, Option, None, Some, IsSome, IsTrue}
use Rattle.std.specs.Prelude.{All, Any, Contains, position, slice_get}
use Rattle.std.specs.Str.{bytes_eq}
use Rattle.mbdc_io.specs.Lines.{longest_input_line}
use Rattle.dc_address.specs.Text as identity
use Rattle.mbdc_audit.specs.declared.line.Line.{Line}
use Rattle.mbdc_audit.specs.declared.line.Word.{Word}
use Rattle.mbdc_audit.specs.declared.line.Word.TheVariants as word
use Rattle.mbdc_audit.specs.Amount.{last_of}
use Rattle.mbdc_audit.specs.Line.{IsAsked, IsLine, may_follow, maybe_at, number_at}
use Rattle.mbdc_audit.specs.Uses.{counted_named, size_named, unit_named}
use Rattle.mbdc_audit.specs.House.{End, Spelled, Source, current, stored, ended, anew, put, first, last, Value, Run, Part, Struck}
use Rattle.mbdc_audit.specs.House.{Key, Number, Window, Place, Span, Use, Allowed, User, House}
use Rattle.mbdc_audit.specs.declared.house.Declared.{Declared}
use Rattle.mbdc_audit.specs.declared.house.Fact.{Fact}
use Rattle.mbdc_audit.specs.declared.house.Fact.TheVariants.{Factor, Emissions, Degrees, Price, Average}
use Rattle.mbdc_audit.specs.declared.uses.Counted.{Counted}
use Rattle.mbdc_audit.specs.declared.uses.Unit.{Unit}
use Rattle.mbdc_audit.specs.declared.uses.Unit.TheVariants.{Kwh, Smallest}
use Rattle.mbdc_audit.specs.Published.{IsNumber, IsNumberOf, IsUnit, MayAsk, MayAskOf, Open, quantity}
use Rattle.mbdc_audit.specs.Sound.{AreOne, IsAt, IsDeclared, IsHouse}
use Rattle.mbdc_audit.specs.View.{beside_count}

-- ---- what a line says of the house: spans, places and runs count from 0 there, and from 1 in the file

abbrev pub or_empty : Option (List ℕ) → List ℕ
or_empty None = []
or_empty (Some text) = text

abbrev pub text_at : ℕ → Line → List ℕ
text_at place l = or_empty (slice_get (map (λ f. f.now) l.fields) place)

-- the name of a use, by its order
abbrev pub name : House → ℕ → List ℕ
name h used = or_empty (slice_get (map (λ u. u.name) h.uses) used)

abbrev pub Counts : ℕ → ℕ → Line → Type 0
Counts n place l = number_at place l ≡ n + 1

abbrev pub IsEnd : End → ℕ → Line → Type 0
IsEnd e place l = (number_at place l ≡ e.day) × (number_at (place + 1) l ≡ e.offset)

-- a decimal, and its unit in the next field
abbrev pub IsSpelled : Spelled → ℕ → Line → Type 0
IsSpelled t place l = (slice_get l.numbers place ≡ Some (Some (record { digits = t.digits; decimals = t.decimals })))
    × (text_at (place + 1) l ≡ t.unit)

abbrev pub IsSource : Value → Source → Line → Type 0
IsSource v (current bodies) l = (l.word ≡ word.Read) × (number_at 1 l ≡ v.moment) × (text_at 2 l ≡ bodies)
IsSource v (stored e bodies) l = (l.word ≡ word.Stored) × IsEnd e 1 l × (text_at 3 l ≡ bodies)
IsSource v (ended e bodies) l = (l.word ≡ word.Ended) × IsEnd e 1 l × (text_at 3 l ≡ bodies)
IsSource v anew l = l.word ≡ word.Zero
IsSource v (put guess t) l = (l.word ≡ (if guess then word.Estimated else word.Hand)) × (number_at 1 l ≡ v.moment) × IsSpelled t 2 l
IsSource v (first guess t) l = (l.word ≡ word.First) × IsSpelled t 1 l × (number_at 3 l ≡ (if guess then 1 else 0))
IsSource v (last guess t) l = (l.word ≡ word.Last) × IsSpelled t 1 l × (number_at 3 l ≡ (if guess then 1 else 0))

-- a fact's use and unit, and where its span stands
abbrev pub IsUsed : House → ℕ → ℕ → Line → Type 0
IsUsed h used place l = text_at place l ≡ name h used

-- a use, and a unit of it in the next field
abbrev pub IsMeasured : House → ℕ → Unit → ℕ → Line → Type 0
IsMeasured h used unit place l =
    IsUsed h used place l × (unit_named (text_at (place + 1) l) ≡ Some unit) × IsUnit h used unit

-- a fact's word, use and unit, and where its span stands
abbrev pub IsFact : House → Fact → Line → Type 0
IsFact h (Factor used) l = (l.word ≡ word.Factor) × IsUsed h used 0 l
IsFact h (Emissions used) l = (l.word ≡ word.Emissions) × IsUsed h used 0 l
IsFact h (Price used unit) l = (l.word ≡ word.Price) × IsMeasured h used unit 0 l
IsFact h (Average used unit) l = (l.word ≡ word.Average) × IsMeasured h used unit 0 l
IsFact h Degrees l = l.word ≡ word.Degrees

abbrev pub span_place : Fact → ℕ
span_place (Price used unit) = 2
span_place (Average used unit) = 2
span_place _ = 1

-- where a period stands, or a run and a moment
abbrev pub period_place : Word → ℕ
period_place word.Shown = 1
period_place _ = 0

-- a user, and a use with a unit in the next fields
abbrev pub IsOne : House → Key → ℕ → Line → Type 0
IsOne h k place l = (number_at place l ≡ k.user) × IsMeasured h k.used k.unit (place + 1) l

abbrev pub Names : Word → House → Key → Line → Type 0
Names word.Shown h k l = Counts k.span 0 l × (unit_named (text_at 3 l) ≡ Some k.unit) × IsUnit h k.used k.unit
Names word.Value h k l =
    (q : Counted) × (quantity h k.used ≡ Some q) × (size_named (text_at 3 l) ≡ Some (q, k.size))
Names word.OfFlat h k l = Counts k.span 0 l × (text_at 1 l ≡ k.flat) × IsMeasured h k.used k.unit 2 l
Names word.OfHouse h k l = Counts k.span 0 l × IsMeasured h k.used k.unit 1 l
Names word.Change h k l = Counts k.span 0 l × Counts k.other 1 l × IsOne h k 2 l
Names word.Weather h k l =
    Counts k.span 0 l × Counts k.other 1 l × (number_at 2 l ≡ k.user) × IsUsed h k.used 3 l × (k.unit ≡ Kwh)
Names word.Carbon h k l = Counts k.span 0 l × (number_at 1 l ≡ k.user) × IsUsed h k.used 2 l × (k.unit ≡ Kwh)
Names word.OfUser h k l = Counts k.span 0 l × IsOne h k 1 l
Names word.Mean h k l = Counts k.span 0 l × IsOne h k 1 l
Names word.Cost h k l = Counts k.span 0 l × IsOne h k 1 l
Names _ h k l = ⊥

-- words of numbers of a place; the others' are of the house
abbrev pub is_of_place : Word → Bool
is_of_place word.Shown = true
is_of_place word.Value = true
is_of_place _ = false

-- where the use stands in its line
abbrev pub use_place : Word → ℕ
use_place word.OfHouse = 1
use_place word.Change = 3
use_place word.Weather = 3
use_place _ = 2

-- the other span and the size, or the unit, that a word doesn't have; the user and the flat, both the field before the use
abbrev pub NoOther : Word → Key → Type 0
NoOther word.Change k = ⊤
NoOther word.Weather k = ⊤
NoOther _ k = k.other ≡ 0

abbrev pub NoSize : Word → Key → Type 0
NoSize word.Value k = k.unit ≡ Smallest
NoSize _ k = k.size ≡ 1

abbrev pub IsWhose : Bool → Key → Line → Type 0
IsWhose true k l = (k.user ≡ 0) × (k.flat ≡ [])
IsWhose _ k l = (k.user ≡ number_at (use_place l.word - 1) l) × (k.flat ≡ text_at (use_place l.word - 1) l)

-- A LINE ASKS for a number: its text and what is beside it are the line's, and it says nothing more
pub record Asks (h : House) (n : Number) (l : Line) : Type 0 where
  pub word_is : l.word ≡ n.key.word
  pub from_is : number_at (period_place l.word) l ≡ n.key.from
  pub to_is : number_at (period_place l.word + 1) l ≡ n.key.to
  pub named : Names l.word h n.key l
  pub text_is : text_at l.text l ≡ n.text
  pub beside_is : take (length n.beside) (drop (l.text + 1) (map (λ f. f.now) l.fields)) ≡ n.beside
  pub beside_all : length n.beside ≡ beside_count l.word
  pub other : NoOther l.word n.key
  pub size : NoSize l.word n.key
  pub whose : IsWhose (is_of_place l.word) n.key l

-- what a line says
pub data Said : Type 0 where
  begins : List ℕ → Said
  uses : Use → Said
  allows : Allowed → Said
  spans : ℕ → Span → Said
  declares : Declared → Said
  lives : User → Said
  stands : ℕ → Place → Said
  counts : ℕ → Run → Said
  opens : ℕ → Said
  reads : Value → Said
  strikes : Struck → Said
  parts : ℕ → Part → Said
  asks : Number → Said
  totals : Said
  closes : Said

abbrev pub IsVib : List ℕ → List ℕ → Type 0
IsVib field vib = ((field ≡ codes "-") × (vib ≡ [])) ⊎ ((field ≢ codes "-") × (vib ≡ field))

abbrev pub IsSaid : House → Said → Line → Type 0
IsSaid h (begins label) l = (l.word ≡ word.Audit) × (text_at 1 l ≡ label)
IsSaid h (uses u) l = (l.word ≡ word.Use) × (text_at 0 l ≡ u.name) × (counted_named (text_at 1 l) ≡ Some u.counts)
IsSaid h (allows a) l = (l.word ≡ word.As) × (text_at 0 l ≡ name h a.used) × (number_at 1 l ≡ a.kind) × (text_at 2 l ≡ a.why)
IsSaid h (spans n s) l = (l.word ≡ word.Span) × Counts n 0 l × IsEnd s.from 1 l × IsEnd s.to 3 l
IsSaid h (declares d) l = IsFact h d.fact l × Counts d.span (span_place d.fact) l × (number_at (span_place d.fact + 1) l ≡ d.ratio)
IsSaid h (lives u) l = (l.word ≡ word.User) × (number_at 0 l ≡ u.number) × (text_at 1 l ≡ u.flat) × (maybe_at 2 l ≡ u.area)
IsSaid h (stands n p) l = (l.word ≡ word.Place) × Counts n 0 l × (text_at 1 l ≡ p.flat) × (text_at 2 l ≡ name h p.used)
    × (number_at 3 l ≡ p.weight)
IsSaid h (counts n r) l = (l.word ≡ word.Meter) × Counts n 0 l × (text_at 1 l ≡ identity.text_of r.identity) × (number_at 2 l ≡ r.begin)
    × (maybe_at 3 l ≡ r.over) × (number_at 4 l ≡ r.most) × (number_at 5 l ≡ r.size) × IsVib (text_at 6 l) r.vib
    × (r.identity.version < 256) × (r.identity.kind < 256)
IsSaid h (opens span) l = (l.word ≡ word.Window) × Counts span 0 l
IsSaid h (reads v) l = Counts v.run 0 l × IsSource v v.source l
IsSaid h (strikes x) l = (l.word ≡ word.Struck) × Counts x.run 0 l × (number_at 1 l ≡ x.moment) × (text_at 2 l ≡ x.why)
IsSaid h (parts span x) l = (l.word ≡ word.Part) × Counts span 0 l × (number_at 1 l ≡ x.from) × (number_at 2 l ≡ x.to)
    × (maybe_at 3 l ≡ x.user)
IsSaid h (asks n) l = Asks h n l
IsSaid h totals l = l.word ≡ word.Totals
IsSaid h closes l = l.word ≡ word.End

-- ---- what may be next

-- the one that was begun last: a file says each place whole, and in it each window whole, before the next one
abbrev pub InPlace : (Place → Type 0) → House → Type 0
InPlace P h = Any P (last_of h.places)

abbrev pub InWindow : (Place → Window → Type 0) → House → Type 0
InWindow P h = InPlace (λ p. Any (P p) (last_of p.windows)) h

-- the first use with a name
unfoldable pub first_named : House → List ℕ → Option ℕ
first_named h text = position (λ u. bytes_eq u.name text) h.uses

-- a use is declared, and the one that its name means
abbrev pub IsMeant : House → ℕ → Type 0
IsMeant h used = first_named h (name h used) ≡ Some used

abbrev pub use_of : Fact → Option ℕ
use_of (Factor used) = Some used
use_of (Emissions used) = Some used
use_of (Price used unit) = Some used
use_of (Average used unit) = Some used
use_of Degrees = None

-- what a number is of is declared before it: of a place it is of the last one, in its last window
abbrev pub AskedOf : Bool → House → Number → Type 0
AskedOf true h n = InWindow (λ p w. MayAskOf h p w n.key) h
AskedOf _ h n = MayAsk h n.key × IsMeant h n.key.used

-- the unit of what a person or an estimate put has a size
abbrev pub HasUnit : Source → Type 0
HasUnit (put guess t) = IsSome (size_named t.unit)
HasUnit (first guess t) = IsSome (size_named t.unit)
HasUnit (last guess t) = IsSome (size_named t.unit)
HasUnit _ = ⊤

-- IT MAY BE NEXT of a house: it has the next number of its kind, what it names was declared before, nothing is declared
-- twice, users and windows rise, and no limit is passed
abbrev pub MayBeNext : House → Said → Type 0
MayBeNext h (uses u) = All (λ v. v.name ≢ u.name) h.uses × (length h.uses < 64)
MayBeNext h (allows a) = IsMeant h a.used × All (λ b. b.used ≡ a.used → b.kind ≢ a.kind) h.allowed
MayBeNext h (spans n s) = (n ≡ length h.spans) × (n < 4)
MayBeNext h (declares d) = All (λ e. AreOne e d → ⊥) h.facts × (d.span < length h.spans)
    × ((used : ℕ) → use_of d.fact ≡ Some used → IsMeant h used)
MayBeNext h (lives u) = All (λ v. v.number < u.number) (last_of h.users) × (length h.users < 4096)
MayBeNext h (stands n p) = (n ≡ length h.places) × (n < 16384) × (p.runs ≡ []) × (p.windows ≡ []) × IsMeant h p.used
MayBeNext h (counts n r) = InPlace (λ p. (n ≡ length p.runs) × (n < 16)) h
MayBeNext h (opens n) = InPlace (λ p. All (λ w. w.span < n) (last_of p.windows)) h × (n < length h.spans)
MayBeNext h (reads v) = InWindow (λ p w. (length w.values < 2048)
    × ((r : Run) × (slice_get p.runs v.run ≡ Some r) × IsAt r v v.source)) h × HasUnit v.source
MayBeNext h (strikes x) = InWindow (λ p w. x.run < length p.runs) h
MayBeNext h (parts n x) = InWindow (λ p w. (n ≡ w.span) × (length w.parts < 64)) h × IsDeclared h x.user
MayBeNext h (asks n) = AskedOf (is_of_place n.key.word) h n
MayBeNext h _ = ⊤

-- ---- a house grows by a line

-- the last one changed
abbrev pub in_last : {X : Type 0} → (X → X) → List X → List X
in_last f [] = []
in_last f (x ∷ []) = f x ∷ []
in_last f (x ∷ next ∷ rest) = x ∷ in_last f (next ∷ rest)

abbrev pub in_place : (Place → Place) → House → House
in_place f h = record h { places = in_last f h.places }

abbrev pub in_window : (Window → Window) → House → House
in_window f h = in_place (λ p. record p { windows = in_last f p.windows }) h

-- a window as its line begins it
abbrev pub opened : ℕ → Window
opened n = record { span = n; values = []; struck = []; parts = []; numbers = [] }

-- a number of a place stands in its window, another one in the house
abbrev pub with_number : Bool → Number → House → House
with_number true n h = in_window (λ w. record w { numbers = w.numbers ++ n ∷ [] }) h
with_number _ n h = record h { numbers = h.numbers ++ n ∷ [] }

-- A HOUSE WITH what one line more says, at the end of its kind
abbrev pub with_said : Said → House → House
with_said (begins label) h = record h { label = label }
with_said (uses u) h = record h { uses = h.uses ++ u ∷ [] }
with_said (allows a) h = record h { allowed = h.allowed ++ a ∷ [] }
with_said (spans n s) h = record h { spans = h.spans ++ s ∷ [] }
with_said (declares d) h = record h { facts = h.facts ++ d ∷ [] }
with_said (lives u) h = record h { users = h.users ++ u ∷ [] }
with_said (stands n p) h = record h { places = h.places ++ p ∷ [] }
with_said (counts n r) h = in_place (λ p. record p { runs = p.runs ++ r ∷ [] }) h
with_said (opens n) h = in_place (λ p. record p { windows = p.windows ++ opened n ∷ [] }) h
with_said (reads v) h = in_window (λ w. record w { values = w.values ++ v ∷ [] }) h
with_said (strikes x) h = in_window (λ w. record w { struck = w.struck ++ x ∷ [] }) h
with_said (parts n x) h = in_window (λ w. record w { parts = w.parts ++ x ∷ [] }) h
with_said (asks n) h = with_number (is_of_place n.key.word) n h
with_said totals h = h
with_said closes h = h

-- A LINE ADDS to a house what it says, where that may be next
pub record Adds (old : House) (l : Line) (new : House) : Type 0 where
  pub said : Said
  pub may : MayBeNext old said
  pub says : IsSaid new said l
  pub with_it : new ≡ with_said said old

-- ---- the lines of a file, one by one

-- Before its first line a file is at stage 0, and each line brings it to its word's: 1 the header, 2 declarations,
-- 3 a place, 4 its runs of meters, 5 a window of it, 6 the window's values, 7 its struck telegrams (in any order), 8 its parts,
-- 9 its numbers, 10 the line of totals, 11 numbers of the house, 12 the end. A line may come only after those that
-- `may_follow` has for its stage.

-- A LINE FOLLOWS, from a stage and a house to the next ones: it may by the stage, and adds to the house
pub record Follows (stage : ℕ) (text : List ℕ) (h : House) (stage' : ℕ) (h' : House) : Type 0 where
  pub short : length text ≤ longest_input_line
  pub line : Line
  pub is : IsLine text line
  pub follows : IsTrue (may_follow line.stage stage)
  pub stage_is : stage' ≡ line.stage
  pub adds : Adds h line h'

-- EACH LINE FOLLOWS the one before it
abbrev pub Steps : ℕ → House → List (List ℕ) → ℕ → House → Type 0
Steps s h [] t g = (t ≡ s) × (g ≡ h)
Steps s h (line ∷ lines) t g = (u : ℕ) × (i : House) × Follows s line h u i × Steps u i lines t g

-- the house before the first line
abbrev pub empty : House
empty = record {
  label = [];
  uses = [];
  allowed = [];
  spans = [];
  facts = [];
  users = [];
  places = [];
  numbers = [];
}

-- a house but for its values' amounts, which lines don't say: evidence gives them
abbrev pub bare_value : Value → Value
bare_value v = record v { amount = 0 }

abbrev pub bare_window : Window → Window
bare_window w = record w { values = map bare_value w.values }

abbrev pub bare_place : Place → Place
bare_place p = record p { windows = map bare_window p.windows }

abbrev pub bare_house : House → House
bare_house h = record h { places = map bare_place h.places }

-- ---- a right file

-- the limits of a file
pub record IsWithin (h : House) : Type 0 where
  pub spans : length h.spans ≤ 4
  pub uses : length h.uses ≤ 64
  pub users : length h.users ≤ 4096
  pub places : length h.places ≤ 16384
  pub meters : All (λ p. length p.runs ≤ 16) h.places
  pub values : All (λ p. All (λ w. length w.values ≤ 2048) p.windows) h.places
  pub parts : All (λ p. All (λ w. length w.parts ≤ 64) p.windows) h.places

abbrev pub all_opened : House → List Open
all_opened h = flat_map (λ p. map (λ w. record { place = p; window = w }) p.windows) h.places

abbrev pub all_numbers : House → List Number
all_numbers h = flat_map (λ o. o.window.numbers) (all_opened h) ++ h.numbers

-- a number asks for nothing: what is to be filled in begins with a question mark
abbrev pub AsksNothing : Number → Type 0
AsksNothing n = All (λ text. Contains text 63 → ⊥) (n.text ∷ n.beside)

-- it holds of a number; where asking is allowed, of one that asks for nothing
abbrev pub IfGiven : Bool → (Number → Type 0) → Number → Type 0
IfGiven false P n = P n
IfGiven true P n = AsksNothing n → P n

-- the last line of a file ends with a feed, too
abbrev pub IsFed : List ℕ → Type 0
IsFed input = (front : List ℕ) × (input ≡ front ++ 10 ∷ [])

-- A FILE IS RIGHT where its lines, one by one to the last word, make a sound house, and each number says what it is; where
-- asking is allowed, as far as it is given; otherwise no line of a number has a question mark
pub record IsRight (asks : Bool) (lines : List (List ℕ)) : Type 0 where
  pub house : House
  pub spelled : Steps 0 empty lines 12 (bare_house house)
  pub plain : asks ≡ false → All (λ line. IsAsked line → ⊥) lines
  pub within : IsWithin house
  pub sound : IsHouse house
  pub of_places : All (λ o. All (IfGiven asks (IsNumberOf house o)) o.window.numbers) (all_opened house)
  pub of_house : All (IfGiven asks (IsNumber house)) house.numbers
  pub asked : 0 < length (all_numbers house)
