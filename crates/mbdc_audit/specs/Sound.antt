-- The rules of a house that don't depend on its published numbers (this product).
use Rattle.std.specs.Prelude.{◌≡◌, ◌≢◌, ◌≤◌, ◌<◌, ℕ, ◌+◌, ◌-◌, ◌%◌, ◌==◌, ◌&&◌, ◌⊎◌, ⊤}
use Rattle.std.specs.Prelude.{Bool, true, false, not, nat_lt, if◌then◌else◌, max, min, codes}
use Rattle.std.specs.Prelude.{List, [], ◌∷◌, ◌++◌, length, filter, map, take, flat_map, Option, None, Some}
use Rattle.std.specs.Prelude.{All, AllPairs, Any, Contains, IsTrue, slice_get}
use Rattle.dc_units.specs.Date.{Day, exists}
use Rattle.dc_units.specs.Text.{day_text}
use Rattle.mbdc_audit.specs.Moment.{number_of}
use Rattle.mbdc_audit.specs.House.{End, at, Source, current, stored, ended, anew, put, first, last, Value, Run, Part, Window}
use Rattle.mbdc_audit.specs.House.{Place, Span, Use, House}
use Rattle.mbdc_audit.specs.declared.house.Declared.{Declared}
use Rattle.mbdc_audit.specs.Amount.{deciding, last_of}
use Rattle.mbdc_audit.specs.Evidence.{Rests}
use Rattle.mbdc_audit.specs.declared.uses.Counted.{Counted}
use Rattle.mbdc_audit.specs.declared.uses.Counted.TheVariants.{Allocation}

-- ---- the time of a place in a span

abbrev pub begin_at : Option Run → ℕ → ℕ
begin_at None t = 0
begin_at (Some r) t = max r.begin t

abbrev pub end_by : Option ℕ → ℕ → ℕ
end_by None t = t
end_by (Some over) t = min over t

abbrev pub end_at : Option Run → ℕ → ℕ
end_at None t = 0
end_at (Some r) t = end_by r.over t

abbrev pub from : Place → Span → ℕ
from p s = begin_at (slice_get p.runs 0) (at s.from)

abbrev pub to : Place → Span → ℕ
to p s = end_at (slice_get p.runs (length p.runs - 1)) (at s.to)

-- a run is over by a moment
abbrev pub IsOver : Option ℕ → ℕ → Type 0
IsOver None t = ⊥
IsOver (Some over) t = over ≤ t

abbrev pub IsUntil : ℕ → Option ℕ → Type 0
IsUntil t None = ⊤
IsUntil t (Some over) = t ≤ over

-- ---- a window

abbrev pub is_telegram : Source → Bool
is_telegram (current bodies) = true
is_telegram (stored e bodies) = true
is_telegram (ended e bodies) = true
is_telegram _ = false

abbrev pub AreAt : Value → Value → Type 0
AreAt a b = (a.run ≡ b.run) × (a.moment ≡ b.moment)

-- the telegrams of a run
abbrev pub told_of : ℕ → List Value → List Value
told_of run values = filter (λ v. is_telegram v.source && (v.run == run)) values

-- telegrams show that a run began anew: its first one shows less than the last one of the run before
pub record Falls (values : List Value) (v : Value) : Type 0 where
  pub before : ℕ
  pub is_next : v.run ≡ before + 1
  pub high : Value
  pub low : Value
  pub high_is : last_of (told_of before values) ≡ high ∷ []
  pub low_is : take 1 (filter (λ x. nat_lt v.moment x.moment) (told_of v.run values)) ≡ low ∷ []
  pub falls : low.amount < high.amount

-- a run is of the meter of the run before, from its end on
pub record IsAnew (runs : List Run) (v : Value) : Type 0 where
  pub before : ℕ
  pub is_next : v.run ≡ before + 1
  pub old : Run
  pub new : Run
  pub old_is : slice_get runs before ≡ Some old
  pub new_is : slice_get runs v.run ≡ Some new
  pub one_meter : (old.identity ≡ new.identity) × (old.vib ≡ new.vib) × (old.over ≡ Some new.begin)

abbrev pub IfAnew : Source → Type 0 → Type 0
IfAnew anew P = P
IfAnew _ P = ⊤

-- A VALUE HAS EVIDENCE, and lies below its run's size
abbrev pub IsEvident : List Run → Counted → List Value → Value → Type 0
IsEvident runs q values v = (run : Run) × (slice_get runs v.run ≡ Some run) × Rests run q v v.source
    × ((run.size ≡ 0) ⊎ (v.amount < run.size)) × IfAnew v.source (Falls values v)

abbrev pub over_or : ℕ → Option ℕ → ℕ
over_or t None = t
over_or t (Some over) = over

-- where it lies by its source; the last one of a run that isn't over at its begin
abbrev pub IsAt : Run → Value → Source → Type 0
IsAt run v (stored e bodies) = v.moment ≡ at e
IsAt run v (ended e bodies) = v.moment ≡ at e
IsAt run v anew = v.moment ≡ run.begin
IsAt run v (first guess t) = v.moment ≡ run.begin
IsAt run v (last guess t) = v.moment ≡ over_or run.begin run.over
IsAt run v _ = ⊤

abbrev pub IsOfEnd : Run → Value → Source → Type 0
IsOfEnd run v (ended e bodies) = run.over ≡ Some v.moment
IsOfEnd run v (last guess t) = run.over ≡ Some v.moment
IsOfEnd run v _ = ⊤

-- A VALUE LIES in its run's time
abbrev pub IsTimed : List Run → Value → Type 0
IsTimed runs v = (run : Run) × (slice_get runs v.run ≡ Some run) × (run.begin ≤ v.moment) × IsUntil v.moment run.over
    × IsOfEnd run v v.source × IfAnew v.source (IsAnew runs v)

-- parts from a moment to another, each after the one before it
abbrev pub Tile : ℕ → ℕ → List Part → Type 0
Tile from to [] = from ≡ to
Tile from to (p ∷ parts) = (p.from ≡ from) × (p.from < p.to) × Tile p.to to parts

abbrev pub IsUserOf : House → List ℕ → Option ℕ → Type 0
IsUserOf h flat None = ⊤
IsUserOf h flat (Some user) = Any (λ u. (u.number ≡ user) × (u.flat ≡ flat)) h.users

abbrev pub ends_in : Source → List End
ends_in (stored e bodies) = e ∷ []
ends_in (ended e bodies) = e ∷ []
ends_in _ = []

abbrev pub ends_of : Window → List End
ends_of w = flat_map (λ v. ends_in v.source) w.values

-- at most an hour apart
abbrev pub AreNear : End → End → Type 0
AreNear a b = (a.offset ≤ b.offset + 60) × (b.offset ≤ a.offset + 60)

-- telegrams of one moment give one value, and none is struck
pub record IsRead (runs : List Run) (q : Counted) (w : Window) : Type 0 where
  pub values : All (IsEvident runs q w.values) w.values
  pub one_value : AllPairs (λ a b. is_telegram a.source ≡ true → is_telegram b.source ≡ true → AreAt a b
      → a.amount ≡ b.amount) w.values
  pub struck : All (λ x. All (λ v. is_telegram v.source ≡ true → v.run ≡ x.run → v.moment ≡ x.moment → ⊥) w.values)
      w.struck

-- a value is no earlier than another one, and at its moment of no earlier run
abbrev pub After : Value → Value → Type 0
After a b = (a.moment < b.moment) ⊎ ((a.moment ≡ b.moment) × (a.run ≤ b.run))

pub record AreTimed (runs : List Run) (s : Span) (w : Window) : Type 0 where
  pub each : All (IsTimed runs) w.values
  pub order : AllPairs After w.values
  pub near : All (λ e. AreNear e s.from ⊎ AreNear e s.to) (ends_of w)

pub record AreParts (h : House) (p : Place) (s : Span) (w : Window) : Type 0 where
  pub tile : Tile (from p s) (to p s) w.parts
  pub users : All (λ x. IsUserOf h p.flat x.user) w.parts

-- A WINDOW IS SOUND but for its values' evidence
pub record IsWindow (h : House) (p : Place) (w : Window) (s : Span) : Type 0 where
  pub timed : AreTimed p.runs s w
  pub parts : AreParts h p s w

-- ---- a place

-- two values are of one word
abbrev pub is_word : Source → Source → Bool
is_word (current a) (current b) = true
is_word (stored e a) (stored f b) = true
is_word (ended e a) (ended f b) = true
is_word anew anew = true
is_word (put guess t) (put guessed u) = if guess then guessed else not guessed
is_word (first guess t) (first guessed u) = true
is_word (last guess t) (last guessed u) = true
is_word s t = false

-- lists of values are the same, by run, moment, amount and word
abbrev pub AreAlike : List Value → List Value → Type 0
AreAlike [] [] = ⊤
AreAlike (a ∷ later) (b ∷ others) = (a.run ≡ b.run) × (a.moment ≡ b.moment) × (a.amount ≡ b.amount)
    × (is_word a.source b.source ≡ true) × AreAlike later others
AreAlike one other = ⊥

-- the moments at which one of two spans begins or ends, and that both have
abbrev pub IsCommon : Span → Span → ℕ → Type 0
IsCommon a b t = Contains (at a.from ∷ at a.to ∷ at b.from ∷ at b.to ∷ []) t
    × (at a.from ≤ t) × (t ≤ at a.to) × (at b.from ≤ t) × (t ≤ at b.to)

-- device types, by the names of uses: heat, cooling, warm and cold water, electricity, gas, allocators
abbrev pub types : List (List ℕ × ℕ)
types = (codes "heat", 0x04) ∷ (codes "heat", 0x0C) ∷ (codes "heat", 0x0D) ∷ (codes "cooling", 0x0A)
    ∷ (codes "cooling", 0x0B) ∷ (codes "warm water", 0x06) ∷ (codes "warm water", 0x15) ∷ (codes "cold water", 0x07)
    ∷ (codes "cold water", 0x16) ∷ (codes "electricity", 0x02) ∷ (codes "gas", 0x03) ∷ (codes "allocator", 0x08) ∷ []

abbrev pub IsType : List ℕ → Run → Type 0
IsType name r = Contains types (name, r.identity.kind)
    ⊎ ((name ≡ codes "cooling") × (r.identity.kind ≡ 0x0D) × (r.vib ≢ []))

abbrev pub IsAllowed : House → ℕ → Run → Type 0
IsAllowed h used r = Any (λ a. (a.used ≡ used) × (a.kind ≡ r.identity.kind)) h.allowed

pub record AreRuns (h : House) (name : List ℕ) (p : Place) : Type 0 where
  pub times : All (λ r. (over : ℕ) → r.over ≡ Some over → r.begin < over) p.runs
  pub follow : AllPairs (λ a b. IsOver a.over b.begin) p.runs
  pub types_are : All (λ r. IsAllowed h p.used r ⊎ IsType name r) p.runs

-- one window of a span in which a place has a time, and else none
abbrev pub IsSpannedBy : Place → ℕ → Span → Type 0
IsSpannedBy p n s = length (filter (λ w. w.span == n) p.windows) ≡ (if nat_lt (from p s) (to p s) then 1 else 0)

-- A WINDOW FOR EACH SPAN in which a place has a time
abbrev pub IsSpanned : House → Place → Type 0
IsSpanned h p = (n : ℕ) (s : Span) → slice_get h.spans n ≡ Some s → IsSpannedBy p n s

-- what decides a common end of two windows is the same
abbrev pub AreOneCurve : House → Window → Window → Type 0
AreOneCurve h w x = (s r : Span) → slice_get h.spans w.span ≡ Some s → slice_get h.spans x.span ≡ Some r
    → (t : ℕ) → IsCommon s r t → AreAlike (deciding t w.values) (deciding t x.values)

-- ONE CURVE: what decides a moment is the same in each window
abbrev pub IsOneCurve : House → Place → Type 0
IsOneCurve h p = AllPairs (AreOneCurve h) p.windows

-- A PLACE IS SOUND by itself
pub record IsPlace (h : House) (p : Place) : Type 0 where
  pub used : Use
  pub used_is : slice_get h.uses p.used ≡ Some used
  pub weight : (used.counts ≡ Allocation) ⊎ (p.weight ≡ 1000000)
  pub runs : AreRuns h used.name p
  pub windows : All (λ w. (s : Span) × (slice_get h.spans w.span ≡ Some s) × IsWindow h p w s) p.windows
  pub spanned : IsSpanned h p

-- ITS VALUES HAVE EVIDENCE
abbrev pub IsReadPlace : House → Place → Type 0
IsReadPlace h p = (u : Use) × (slice_get h.uses p.used ≡ Some u) × All (IsRead p.runs u.counts) p.windows

-- ---- the house

-- a run with its use and its flat
pub record Fitted : Type 0 where
  pub used : ℕ
  pub run : Run

abbrev pub fitted_of : Place → List Fitted
fitted_of p = map (λ r. record { used = p.used; run = r }) p.runs

abbrev pub fitted : House → List Fitted
fitted h = flat_map fitted_of h.places

abbrev pub AreApart : Run → Run → Type 0
AreApart a b = IsOver a.over b.begin ⊎ IsOver b.over a.begin

-- two values of one meter: of two uses, by two VIBs that are named
abbrev pub AreTwo : Fitted → Fitted → Type 0
AreTwo a b = (a.used ≢ b.used) × (a.run.vib ≢ []) × (b.run.vib ≢ []) × (a.run.vib ≢ b.run.vib)

-- a part with its flat
pub record Lived : Type 0 where
  pub flat : List ℕ
  pub part : Part

abbrev pub lived_of : Place → List Lived
lived_of p = flat_map (λ w. map (λ x. record { flat = p.flat; part = x }) w.parts) p.windows

abbrev pub lived : House → List Lived
lived h = flat_map lived_of h.places

abbrev pub ends_of_spans : House → List End
ends_of_spans h = flat_map (λ s. s.from ∷ s.to ∷ []) h.spans

abbrev pub ends_of_place : Place → List End
ends_of_place p = flat_map ends_of p.windows

abbrev pub all_ends : House → List End
all_ends h = ends_of_spans h ++ flat_map ends_of_place h.places

-- a label is the month of the day after one
abbrev pub IsLabel : List ℕ → ℕ → Type 0
IsLabel label day = (d : Day) × IsTrue (exists d.year d.month d.day) × (number_of d ≡ day + 1) × (label ≡ take 7 (day_text d))

-- two facts of one key
abbrev pub AreOne : Declared → Declared → Type 0
AreOne a b = (a.fact ≡ b.fact) × (a.span ≡ b.span)

-- Spans have a time, no two are the same, and the label is the month of the first day of one that ends last
pub record AreSpans (h : House) : Type 0 where
  pub times : All (λ s. at s.from < at s.to) h.spans
  pub once : AllPairs (λ a b. (at a.from ≡ at b.from) × (at a.to ≡ at b.to) → ⊥) h.spans
  pub labelled : Any (λ s. All (λ x. at x.to ≤ at s.to) h.spans × IsLabel h.label s.from.day) h.spans

-- ONE DAY, ONE OFFSET, of quarters of an hour, at most 14 hours; after days that were seen before
abbrev pub Agree : List End → List End → Type 0
Agree seen [] = ⊤
Agree seen (e ∷ es) = (9240 ≤ e.offset) × (e.offset ≤ 10920) × (e.offset % 15 ≡ 0)
    × All (λ a. a.day ≡ e.day → a.offset ≡ e.offset) seen × Agree (seen ++ e ∷ []) es

-- ONE METER, ONE PLACE
abbrev pub IsOnce : Fitted → Fitted → Type 0
IsOnce a b = a.run.identity ≡ b.run.identity → AreApart a.run b.run ⊎ AreTwo a b

-- ONE TENANCY: who has a flat at a moment has it at each of its places
abbrev pub IsOneTenancy : Lived → Lived → Type 0
IsOneTenancy a b = a.flat ≡ b.flat → a.part.from < b.part.to → b.part.from < a.part.to → a.part.user ≡ b.part.user

abbrev pub IsDeclared : House → Option ℕ → Type 0
IsDeclared h None = ⊤
IsDeclared h (Some user) = Any (λ u. u.number ≡ user) h.users

-- what is named is there, and nothing is there twice; a place has a run, and values lie where their sources say
pub record IsBuilt (h : House) : Type 0 where
  pub uses : AllPairs (λ a b. a.name ≢ b.name) h.uses
  pub allowed : AllPairs (λ a b. a.used ≡ b.used → a.kind ≡ b.kind → ⊥) h.allowed
  pub facts : AllPairs (λ a b. AreOne a b → ⊥) h.facts
  pub users : AllPairs (λ a b. a.number < b.number) h.users
  pub runs : All (λ p. 0 < length p.runs) h.places
  pub used : All (λ p. p.used < length h.uses) h.places
  pub rising : All (λ p. AllPairs (λ w x. w.span < x.span) p.windows) h.places
  pub spans : All (λ p. All (λ w. w.span < length h.spans) p.windows) h.places
  pub values : All (λ p. All (λ w. All (λ v. (r : Run) × (slice_get p.runs v.run ≡ Some r) × IsAt r v v.source) w.values)
      p.windows) h.places
  pub struck : All (λ p. All (λ w. All (λ x. x.run < length p.runs) w.struck) p.windows) h.places
  pub parts : All (λ p. All (λ w. All (λ x. IsDeclared h x.user) w.parts) p.windows) h.places

-- A HOUSE IS SOUND
pub record IsHouse (h : House) : Type 0 where
  pub built : IsBuilt h
  pub spans : AreSpans h
  pub offsets : Agree [] (all_ends h)
  pub areas : AllPairs (λ a b. a.flat ≡ b.flat → a.area ≡ b.area) h.users
  pub places : All (IsPlace h) h.places
  pub read : All (IsReadPlace h) h.places
  pub one_curve : All (IsOneCurve h) h.places
  pub one_place : AllPairs IsOnce (fitted h)
  pub one_tenancy : AllPairs IsOneTenancy (lived h)
  pub there : 0 < length h.places
