-- The exact value of each published number, its text and its mark (this product).
use Rattle.std.specs.Prelude.{◌≡◌, ◌≤◌, ◌<◌, ℕ, ◌+◌, ◌-◌, ◌*◌, ◌==◌, ◌&&◌, ◌⊎◌, neg_ℤ, pos, ⊤, IsTrue}
use Rattle.std.specs.Prelude.{Bool, true, false, nat_lt, nat_le, if◌then◌else◌, codes}
use Rattle.std.specs.Prelude.{List, [], ◌∷◌, ◌++◌, length, filter, map, flat_map, sum_by, Option, None, Some, is_some}
use Rattle.std.specs.Prelude.{option_map, IsSome, Any}
use Rattle.std.specs.Prelude.{All, Contains, slice_get, find, decimal}
use Rattle.std.specs.List.{list_all, list_any}
use Rattle.std.specs.Option.{option_and_then}
use Rattle.std.specs.Str.{bytes_eq}
use Rattle.dc_units.specs.declared.decimal.Decimal.{Decimal}
use Rattle.dc_units.specs.Text.{decimal_text}
use Rattle.mbdc_audit.specs.House.{at}
use Rattle.mbdc_audit.specs.House.{Part, Window, Place, Span, User, House, Number, Key}
use Rattle.mbdc_audit.specs.declared.house.Fact.{Fact}
use Rattle.mbdc_audit.specs.declared.house.Fact.TheVariants.{Factor, Emissions, Degrees, Price, Average}
use Rattle.mbdc_audit.specs.declared.line.Word.{Word}
use Rattle.mbdc_audit.specs.declared.line.Word.TheVariants as word
use Rattle.mbdc_audit.specs.Smallest.{decimal_in, of_spelled}
use Rattle.mbdc_audit.specs.Amount.{amount, mark, known, counting}
use Rattle.mbdc_audit.specs.Grade.{grade_name, has_number, rank, worst as worse}
use Rattle.mbdc_audit.specs.Evidence.{list_of}
use Rattle.mbdc_audit.specs.Exact.{half_up}
use Rattle.mbdc_audit.specs.Number.{in_unit, of_ratio, percent, scale_of, times}
use Rattle.mbdc_audit.specs.Sound.{from, to}
use Rattle.mbdc_audit.specs.declared.exact.Exact.{Exact}
use Rattle.mbdc_audit.specs.declared.uses.Counted.{Counted}
use Rattle.mbdc_audit.specs.declared.uses.Counted.TheVariants.{Energy}
use Rattle.mbdc_audit.specs.Uses.{is_unit}
use Rattle.mbdc_audit.specs.declared.uses.Unit.{Unit}
use Rattle.mbdc_audit.specs.declared.uses.Unit.TheVariants.{Kwh, CubicMetre, Allocated}
use Rattle.mbdc_audit.specs.declared.grade.Grade.{Grade}
use Rattle.mbdc_audit.specs.declared.grade.Grade.TheVariants.{Missing}

-- ---- fractions

abbrev pub rounded : Exact → ℕ → Decimal
rounded x decimals = record {
  mantissa = if x.is_negative then neg_ℤ (pos (half_up x.num x.den decimals)) else pos (half_up x.num x.den decimals);
  exponent = neg_ℤ (pos decimals);
}

-- THE TEXT of a number with so many decimals
abbrev pub printed : ℕ → Option Exact → List ℕ
printed decimals None = codes "-"
printed decimals (Some x) = decimal_text (rounded x decimals)

-- ---- parts

-- an amount of a place, with the place's weight and the mark
pub record Share : Type 0 where
  pub amount : Option ℕ
  pub weight : ℕ
  pub mark : Grade

abbrev pub share : Place → Window → ℕ → ℕ → Share
share p w a b = record {
  amount = if has_number (mark p.runs (known w.values) a b) then amount p.runs (known w.values) a b else None;
  weight = p.weight;
  mark = mark p.runs (known w.values) a b;
}

-- which parts: of a user, of a flat, of the house
pub data Holder : Type 0 where
  user : ℕ → Holder
  flat : List ℕ → Holder
  house : Holder

abbrev pub is_part_user : ℕ → Option ℕ → Bool
is_part_user n None = false
is_part_user n (Some m) = n == m

abbrev pub is_held : Holder → Place → Part → Bool
is_held (user n) p x = is_part_user n x.user
is_held (flat name) p x = bytes_eq name p.flat
is_held house p x = true

-- the windows of the places of a use in a span
pub record Open : Type 0 where
  pub place : Place
  pub window : Window

abbrev pub opened : House → ℕ → ℕ → List Open
opened h span used = flat_map (λ p. map (λ w. record { place = p; window = w })
    (filter (λ w. w.span == span) p.windows)) (filter (λ p. p.used == used) h.places)

abbrev pub shares_of : Holder → Open → List Share
shares_of who o = map (λ x. share o.place o.window x.from x.to) (filter (is_held who o.place) o.window.parts)

-- THE SHARES that a holder's sum is of
abbrev pub shares : House → Holder → ℕ → ℕ → List Share
shares h who span used = flat_map (shares_of who) (opened h span used)

abbrev pub amount_or_0 : Option ℕ → ℕ
amount_or_0 None = 0
amount_or_0 (Some amount) = amount

abbrev pub plain : List Share → ℕ
plain xs = sum_by (λ s. amount_or_0 s.amount) xs

abbrev pub weighted : List Share → ℕ
weighted xs = sum_by (λ s. amount_or_0 s.amount * s.weight) xs

abbrev pub is_whole : List Share → Bool
is_whole xs = list_all (λ s. is_some s.amount) xs

-- the worst of marks
abbrev pub worst : List Share → Grade
worst [] = Missing
worst (s ∷ []) = s.mark
worst (s ∷ next ∷ rest) = worse s.mark (worst (next ∷ rest))

-- ---- units

abbrev pub is_fact : Fact → Fact → Bool
is_fact (Factor u) (Factor v) = u == v
is_fact (Emissions u) (Emissions v) = u == v
is_fact (Price u a) (Price v b) = (u == v) && is_unit a b
is_fact (Average u a) (Average v b) = (u == v) && is_unit a b
is_fact Degrees Degrees = true
is_fact a b = false

abbrev pub declared : House → Fact → ℕ → Option ℕ
declared h f span = option_map (λ d. d.ratio) (find (λ d. (d.span == span) && is_fact f d.fact) h.facts)

abbrev pub is_energy : Option Counted → Bool
is_energy (Some Energy) = true
is_energy q = false

abbrev pub quantity : House → ℕ → Option Counted
quantity h used = option_map (λ u. u.counts) (slice_get h.uses used)

abbrev pub exact_of : Option Counted → Unit → Option ℕ → List Share → Option Exact
exact_of None unit f xs = None
exact_of (Some q) unit f xs = in_unit (plain xs, weighted xs) (scale_of q unit) f

abbrev pub exact : House → ℕ → ℕ → Unit → List Share → Option Exact
exact h span used unit xs = exact_of (quantity h used) unit (declared h (Factor used) span) xs

-- ---- sums

abbrev pub if_any : {X : Type 0} → List Share → Option X → Option X
if_any [] x = None
if_any (s ∷ xs) x = if is_whole (s ∷ xs) then x else None

-- A SUM is there where each of its parts has a number
abbrev pub sum : House → Holder → ℕ → ℕ → Unit → Option Exact
sum h who span used unit = if_any (shares h who span used) (exact h span used unit (shares h who span used))

-- the windows of the house that have a number
abbrev pub numbered : House → ℕ → ℕ → List Open
numbered h span used = filter (λ o. is_whole (shares_of house o)) (opened h span used)

abbrev pub sum_of_house : House → ℕ → ℕ → Unit → Option Exact
sum_of_house h span used unit = if_any (flat_map (shares_of house) (numbered h span used))
    (exact h span used unit (flat_map (shares_of house) (numbered h span used)))

-- ---- what is computed of sums

abbrev pub user_at : House → ℕ → Option User
user_at h n = find (λ u. u.number == n) h.users

-- of the users of each flat who have an area the last
abbrev pub flats : List User → List User
flats [] = []
flats (u ∷ users) = if list_any (λ v. bytes_eq v.flat u.flat && is_some v.area) users then flats users
    else if is_some u.area then u ∷ flats users else flats users

abbrev pub is_reliable : List Share → Bool
is_reliable xs = nat_le (rank (worst xs)) 1

abbrev pub based : House → ℕ → ℕ → List User
based h span used = filter (λ u. is_reliable (shares h (flat u.flat) span used)) (flats h.users)

abbrev pub areas : List User → ℕ
areas users = sum_by (λ u. amount_or_0 u.area) users

-- three flats at least, so that a mean identifies nobody
abbrev pub mean_of : House → ℕ → ℕ → Unit → Option ℕ → Option ℕ → Option Exact
mean_of h span used unit None given = None
mean_of h span used unit (Some area) (Some given) = Some (record { is_negative = false; num = given * area; den = of_ratio * of_ratio })
mean_of h span used unit (Some area) None = if nat_le 3 (length (based h span used))
    then option_map (times area (areas (based h span used)))
    (exact h span used unit (flat_map (λ u. shares h (flat u.flat) span used) (based h span used)))
    else None

abbrev pub area_of : Option User → Option ℕ
area_of None = None
area_of (Some u) = u.area

abbrev pub is_of_flat : Option User → Open → Bool
is_of_flat None o = false
is_of_flat (Some u) o = bytes_eq u.flat o.place.flat

-- the flat's places of a use in a span
abbrev pub own : House → ℕ → ℕ → ℕ → List Open
own h span who used = filter (is_of_flat (user_at h who)) (opened h span used)

abbrev pub fills : Option Span → ℕ → Open → Bool
fills None who o = false
fills (Some s) who o = (from o.place s == at s.from) && ((to o.place s == at s.to)
    && list_all (λ x. is_part_user who x.user) o.window.parts)

-- A USER HAS THE WHOLE of a span
abbrev pub has_whole : House → ℕ → ℕ → ℕ → Bool
has_whole h span who used = nat_lt 0 (length (own h span who used))
    && list_all (fills (slice_get h.spans span) who) (own h span who used)

abbrev pub percent_of : Option Exact → Option Exact → Option Exact
percent_of None there = None
percent_of (Some a) None = None
percent_of (Some a) (Some b) = percent a b

abbrev pub if_whole : House → Key → Option Exact → Option Exact
if_whole h k x = if has_whole h k.span k.user k.used && has_whole h k.other k.user k.used then x else None

abbrev pub by_ratio : Option ℕ → Option ℕ → ℕ → Option Exact → Option Exact
by_ratio None divisor more x = None
by_ratio (Some ratio) None more x = None
by_ratio (Some ratio) (Some divisor) more x =
    if divisor == 0 then None else option_map (times ratio (divisor * more)) x

-- ---- the number of a house

abbrev pub sum_of_user : House → Key → ℕ → Option Exact
sum_of_user h k span = sum h (user k.user) span k.used k.unit

abbrev pub holds : Word → House → Key → Option Exact
holds word.OfUser h k = sum_of_user h k k.span
holds word.OfFlat h k = sum h (flat k.flat) k.span k.used k.unit
holds word.OfHouse h k = sum_of_house h k.span k.used k.unit
holds word.Mean h k =
    mean_of h k.span k.used k.unit (area_of (user_at h k.user)) (declared h (Average k.used k.unit) k.span)
holds word.Change h k = if_whole h k (percent_of (sum_of_user h k k.span) (sum_of_user h k k.other))
holds word.Weather h k = if_whole h k
    (by_ratio (declared h Degrees k.span) (declared h Degrees k.other) 1 (sum_of_user h k k.other))
holds word.Carbon h k = by_ratio (declared h (Emissions k.used) k.span) (Some 1000) 1000000 (sum_of_user h k k.span)
holds word.Cost h k = by_ratio (declared h (Price k.used k.unit) k.span) (Some 100) 1000000 (sum_of_user h k k.span)
holds _ h k = None

-- WHAT A NUMBER IS
abbrev pub number : House → Key → Option Exact
number h k = holds k.word h k

-- the worst mark; of the house how many places have no number, and how many there are
abbrev pub says : Word → House → Key → List (List ℕ)
says word.OfUser h k = grade_name (worst (shares h (user k.user) k.span k.used)) ∷ []
says word.OfFlat h k = grade_name (worst (shares h (flat k.flat) k.span k.used)) ∷ []
says word.OfHouse h k = decimal (length (opened h k.span k.used) - length (numbered h k.span k.used))
    ∷ decimal (length (opened h k.span k.used)) ∷ []
says _ h k = []

-- what is beside it
abbrev pub beside : House → Key → List (List ℕ)
beside h k = says k.word h k

-- ---- what may be asked

abbrev pub of_factor : House → ℕ → Unit → List Fact
of_factor h used Kwh = if is_energy (quantity h used) then [] else Factor used ∷ []
of_factor h used unit = []

abbrev pub of_word : Word → Key → List Fact
of_word word.Weather k = Degrees ∷ []
of_word word.Carbon k = Emissions k.used ∷ []
of_word word.Cost k = Price k.used k.unit ∷ []
of_word _ k = []

-- the facts that it needs of a span
abbrev pub needs : House → Key → List Fact
needs h k = of_factor h k.used k.unit ++ of_word k.word k

-- a span is declared, with the facts
pub record Has (h : House) (k : Key) (span : ℕ) : Type 0 where
  pub there : span < length h.spans
  pub facts : All (λ f. IsSome (declared h f span)) (needs h k)

-- the other span, where the word has one
abbrev pub HasOther : Word → House → Key → Type 0
HasOther word.Change h k = Has h k k.other
HasOther word.Weather h k = Has h k k.other
HasOther _ h k = ⊤

-- who it is of is declared
abbrev pub IsWho : Word → House → Key → Type 0
IsWho word.OfFlat h k = Any (λ u. u.flat ≡ k.flat) h.users ⊎ Any (λ p. p.flat ≡ k.flat) h.places
IsWho word.OfHouse h k = ⊤
IsWho _ h k = IsSome (user_at h k.user)

-- a unit of the use
abbrev pub IsUnit : House → ℕ → Unit → Type 0
IsUnit h used unit = (q : Counted) × (quantity h used ≡ Some q) × IsSome (scale_of q unit)

-- the decimals that suffice; from 100 on none do, but of a cost, which has two
abbrev pub least : Unit → ℕ
least Kwh = 1
least CubicMetre = 2
least Allocated = 1
least unit = 0

abbrev pub is_hundred : Option Exact → Bool
is_hundred None = true
is_hundred (Some x) = nat_le (100 * x.den) x.num

abbrev pub Suffice : Word → Unit → Option Exact → ℕ → Type 0
Suffice word.Change unit x d = ⊤
Suffice word.Carbon unit x d = 1 ≤ d
Suffice word.Cost unit x d = d ≡ 2
Suffice _ unit x d = (least unit ≤ d) ⊎ ((d ≡ 0) × IsTrue (is_hundred x))

-- a text is what is printed of a number with so many decimals
pub record IsText (k : Key) (x : Option Exact) (text : List ℕ) : Type 0 where
  pub decimals : ℕ
  pub few : decimals ≤ 3
  pub fine : Suffice k.word k.unit x decimals
  pub printed_as : text ≡ printed decimals x

-- a number may be asked: what it is of is declared
pub record MayAsk (h : House) (k : Key) : Type 0 where
  pub who : IsWho k.word h k
  pub unit : IsUnit h k.used k.unit
  pub span : Has h k k.span
  pub other : HasOther k.word h k

-- A NUMBER OF THE HOUSE IS RIGHT: it may be asked, its text is what is printed of it, and what is beside it holds
pub record IsNumber (h : House) (n : Number) : Type 0 where
  pub may : MayAsk h n.key
  pub text : IsText n.key (number h n.key) n.text
  pub beside_it : n.beside ≡ beside h n.key

-- ---- the number of a place

-- the moments at which it may begin and end: those of parts and runs
abbrev pub cuts : Open → List ℕ
cuts o = flat_map (λ x. x.from ∷ x.to ∷ []) o.window.parts ++ flat_map (λ r. r.begin ∷ list_of r.over) o.place.runs

abbrev pub IsPeriod : Span → ℕ → ℕ → Open → Type 0
IsPeriod s a b o = (a < b) × (from o.place s ≤ a) × (b ≤ to o.place s) × Contains (cuts o) a × Contains (cuts o) b

abbrev pub share_of : Open → Key → List Share
share_of o k = share o.place o.window k.from k.to ∷ []

abbrev pub shown_of : House → Open → Key → Option Exact
shown_of h o k = if_any (share_of o k) (exact h o.window.span o.place.used k.unit (share_of o k))

-- what a place consumed in a period is right
pub record IsShown (h : House) (o : Open) (n : Number) : Type 0 where
  pub span : Span
  pub span_is : slice_get h.spans o.window.span ≡ Some span
  pub period : IsPeriod span n.key.from n.key.to o
  pub text : IsText n.key (shown_of h o n.key) n.text

abbrev pub of_text : ℕ → List ℕ → Option ℕ
of_text size text = option_and_then (λ s. of_spelled s size) (decimal_in 9 text)

-- the value of a run at a moment, exactly
abbrev pub IsValueOf : Open → Number → Type 0
IsValueOf o n = Any (λ v. (v.run + 1 ≡ n.key.from) × (v.moment ≡ n.key.to) × (of_text n.key.size n.text ≡ Some v.amount))
    (counting o.window.values)

abbrev pub ByWord : Word → House → Open → Number → Type 0
ByWord word.Value h o n = IsValueOf o n
ByWord _ h o n = IsShown h o n

abbrev pub says_of : Word → Open → Key → List (List ℕ)
says_of word.Value o k = []
says_of _ o k = grade_name (worst (share_of o k)) ∷ []

abbrev pub HasFacts : Word → House → Key → Type 0
HasFacts word.Value h k = ⊤
HasFacts _ h k = IsUnit h k.used k.unit × Has h k k.span

-- it is of its place and its window
pub record MayAskOf (h : House) (p : Place) (w : Window) (k : Key) : Type 0 where
  pub span : k.span ≡ w.span
  pub used : k.used ≡ p.used
  pub facts : HasFacts k.word h k

-- A NUMBER OF A PLACE IS RIGHT
pub record IsNumberOf (h : House) (o : Open) (n : Number) : Type 0 where
  pub may : MayAskOf h o.place o.window n.key
  pub is : ByWord n.key.word h o n
  pub beside_it : n.beside ≡ says_of n.key.word o n.key
