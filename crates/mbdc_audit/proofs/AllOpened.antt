-- Each window of a sound house has parts.
use Rattle.std.proofs.Common.{arith, ◌≡◌, ◌<◌, ◌-◌, ◌+◌, ℕ, zero, suc, List, [], ◌∷◌, ◌++◌, Bool, true, false, map, filter, length, Some}
use Rattle.std.proofs.Common.{refl, sym, ap, ◌∙◌, subst, if◌then◌else◌, get_or, eq-eqb}
use Rattle.std.specs.Prelude.{◌==◌, All, decimal, flat_map, nat_lt, slice_get}
use Rattle.std.proofs.lemmas.Bool.Decides.{nat_tests}
use Rattle.mbdc_audit.specs.declared.house.House as house_type
use Rattle.mbdc_audit.specs.declared.numbers.Holder as holder_type
use Rattle.mbdc_audit.specs.declared.numbers.Holder.TheVariants as holders
use Rattle.mbdc_audit.specs.declared.grade.Grade.{Grade}
use Rattle.mbdc_audit.specs.declared.numbers.Total.{Total}
use Rattle.mbdc_audit.specs.Grade.{grade_name}
use Rattle.mbdc_audit.specs.House.{House, Part, Place, Span, Window}
use Rattle.mbdc_audit.specs.Published.{Open, Share, flat, house, is_held, is_whole, numbered, opened, share, shares_of, user}
use Rattle.mbdc_audit.specs.Sound.{IsHouse, IsPlace, IsWindow, Tile, from, to}
use Rattle.mbdc_audit.specs.Totals.{beside_sum, total_of}
use Rattle.mbdc_audit.specs.View.{house_of}
use Rattle.mbdc_audit.specs.Walk.{AreGradedAll, holder_of, open_of}
use Rattle.mbdc_audit.proofs.Summed.{has_some, whole_rows}
use Rattle.mbdc_audit.proofs.Shares.{IsSum, first_of, is_sum, rest_of}
use Rattle.mbdc_audit.proofs.SumOf.{mark_one}

-- ---- lists

pub all_more : {X : Type 0} (P : X → Type 0) (x : X) (xs : List X) → P x → All P xs → All P (x ∷ xs)
all_more P x xs p all zero d lt = p
all_more P x xs p all (suc k) d lt = all k d (omega (arith, lt))

all_kept : {X : Type 0} (P : X → Type 0) (x : X) (xs : List X) (b : Bool) → P x → All P xs → All P (if b then x ∷ xs else xs)
all_kept P x xs true p all = all_more P x xs p all
all_kept P x xs false p all = all

pub all_filter : {X : Type 0} (P : X → Type 0) (test : X → Bool) (xs : List X) → All P xs → All P (filter test xs)
all_filter P test [] all = all
all_filter P test (x ∷ xs) all = all_kept P x (filter test xs) (test x) (first_of P x xs all) (all_filter P test xs (rest_of P x xs all))

pub all_map : {X Y : Type 0} (P : Y → Type 0) (f : X → Y) (xs : List X) → All (λ x. P (f x)) xs → All P (map f xs)
all_map P f [] all = λ k d lt. absurd (omega (arith, lt))
all_map P f (x ∷ xs) all = all_more P (f x) (map f xs) (first_of (λ x. P (f x)) x xs all) (all_map P f xs (rest_of (λ x. P (f x)) x xs all))

pub all_append : {X : Type 0} (P : X → Type 0) (xs ys : List X) → All P xs → All P ys → All P (xs ++ ys)
all_append P [] ys all more = more
all_append P (x ∷ xs) ys all more = all_more P x (xs ++ ys) (first_of P x xs all) (all_append P xs ys (rest_of P x xs all) more)

pub all_flat_map : {X Y : Type 0} (P : Y → Type 0) (f : X → List Y) (xs : List X) → All (λ x. All P (f x)) xs → All P (flat_map f xs)
all_flat_map P f [] all = λ k d lt. absurd (omega (arith, lt))
all_flat_map P f (x ∷ xs) all = all_append P (f x) (flat_map f xs) (first_of (λ x. All P (f x)) x xs all) (all_flat_map P f xs (rest_of (λ x. All P (f x)) x xs all))

-- what passes a test is kept
one_kept : {X : Type 0} (x : X) (xs : List X) (b : Bool) → b ≡ true → 0 < length (if b then x ∷ xs else xs)
one_kept x xs true e = omega arith
one_kept x xs false e = absurd cc

more_kept : {X : Type 0} (x : X) (xs : List X) (b : Bool) → 0 < length xs → 0 < length (if b then x ∷ xs else xs)
more_kept x xs true some = omega arith
more_kept x xs false some = some

has_one : {X : Type 0} (test : X → Bool) (xs : List X) (k : ℕ) (d : X) → k < length xs → test (get_or xs k d) ≡ true → 0 < length (filter test xs)
has_one test [] k d lt e = absurd (omega (arith, lt))
has_one test (x ∷ xs) zero d lt e = one_kept x (filter test xs) (test x) e
has_one test (x ∷ xs) (suc k) d lt e = more_kept x (filter test xs) (test x) (has_one test xs k d (omega (arith, lt)) e)

-- ---- parts

abbrev HasParts : Window → Type 0
HasParts w = 0 < length w.parts

has_time : (b : Bool) → 0 < (if b then 1 else 0) → b ≡ true
has_time true some = refl
has_time false some = absurd (omega (arith, some))

tiled : (a b : ℕ) (parts : List Part) → a < b → Tile a b parts → 0 < length parts
tiled a b [] lt tile = absurd (omega (arith, lt, tile))
tiled a b (p ∷ parts) lt tile = omega arith

below_if : (m n : ℕ) → nat_lt m n ≡ true → m < n
below_if m n e = grind (arith, nat_tests)

of_window : (h : House) (p : Place) → IsPlace h p → All HasParts p.windows
of_window h p sound k d lt =
    let w : Window = get_or p.windows k d in
    let of : (s : Span) × (slice_get h.spans w.span ≡ Some s) × IsWindow h p w s = sound.windows k d lt in
    let some : 0 < length (filter (λ v. v.span == w.span) p.windows) = has_one (λ v. v.span == w.span) p.windows k d lt (eq-eqb w.span w.span refl) in
    let time : nat_lt (from p of.0) (to p of.0) ≡ true =
    has_time (nat_lt (from p of.0) (to p of.0)) (subst (λ (n : ℕ). 0 < n) (sound.spanned w.span of.0 of.1) some) in
    tiled (from p of.0) (to p of.0) w.parts (below_if (from p of.0) (to p of.0) time) of.2.parts.tile

abbrev AreOpened : Open → Type 0
AreOpened o = 0 < length o.window.parts

pub have_parts : (h : House) (span used : ℕ) → All (IsPlace h) h.places → All AreOpened (opened h span used)
have_parts h span used sound =
    all_flat_map AreOpened (λ p. map (λ w. open_of p w) (filter (λ w. w.span == span) p.windows)) (filter (λ p. p.used == used) h.places)
    (all_filter (λ p. All AreOpened (map (λ w. open_of p w) (filter (λ w. w.span == span) p.windows))) (λ p. p.used == used) h.places
    (λ k d lt. all_map AreOpened (λ w. open_of (get_or h.places k d) w) (filter (λ w. w.span == span) (get_or h.places k d).windows)
    (all_filter HasParts (λ w. w.span == span) (get_or h.places k d).windows (of_window h (get_or h.places k d) (sound k d lt)))))

-- ---- the counts of the house

has_share : (o : Open) (parts : List Part) → 0 < length parts
    → has_some (map (λ x. share o.place o.window x.from x.to) (filter (is_held house o.place) parts)) ≡ true
has_share o [] some = absurd (omega (arith, some))
has_share o (x ∷ parts) some = refl

all_some : (os : List Open) → All AreOpened os → filter has_some (map (shares_of house) os) ≡ map (shares_of house) os
all_some [] all = refl
all_some (o ∷ os) all =
    ap (λ (b : Bool). if b then shares_of house o ∷ filter has_some (map (shares_of house) os) else filter has_some (map (shares_of house) os))
    (has_share o o.window.parts (first_of AreOpened o os all))
    ∙ ap (λ (rows : List (List Share)). shares_of house o ∷ rows) (all_some os (rest_of AreOpened o os all))

pub length_of : {X Y : Type 0} (f : X → Y) (xs : List X) → length (map f xs) ≡ length xs
length_of f [] = refl
length_of f (x ∷ xs) = ap suc (length_of f xs)

as_many : (f : Open → List Share) (o : Open) (os : List Open) (b : Bool) → length (filter is_whole (map f os)) ≡ length (filter (λ o. is_whole (f o)) os)
    → length (if b then f o ∷ filter is_whole (map f os) else filter is_whole (map f os)) ≡ length (if b then o ∷ filter (λ o. is_whole (f o)) os else filter (λ o. is_whole (f o)) os)
as_many f o os true e = ap suc e
as_many f o os false e = e

wholes : (f : Open → List Share) (os : List Open) → length (filter is_whole (map f os)) ≡ length (filter (λ o. is_whole (f o)) os)
wholes f [] = refl
wholes f (o ∷ os) = as_many f o os (is_whole (f o)) (wholes f os)

left_out : (n m k : ℕ) → n + m ≡ k → n ≡ k - m
left_out n m k e = omega arith

pub counts_beside : {A : Type 0} (h : house_type.House A) (span used : ℕ) (t : Total) → IsHouse (house_of h) → AreGradedAll h.places.items
    → t ≡ total_of house span used h.places.items
    → decimal t.without ∷ decimal t.count ∷ [] ≡ beside_sum (house_of h) house span used
counts_beside h span used t sound graded is =
    let os : List Open = opened (house_of h) span used in
    let rows : List (List Share) = map (shares_of house) os in
    let s : IsSum rows t = subst (λ (t : Total). IsSum rows t) (sym is) (is_sum h house span used graded) in
    let some : filter has_some rows ≡ rows = all_some os (have_parts (house_of h) span used sound.places) in
    let count : t.count ≡ length os = s.count_is ∙ (ap (λ (l : List (List Share)). length l) some ∙ length_of (shares_of house) os) in
    let number : length (whole_rows rows) ≡ length (numbered (house_of h) span used) =
    ap (λ (l : List (List Share)). length (filter is_whole l)) some ∙ wholes (shares_of house) os in
    let without : t.without ≡ length os - length (numbered (house_of h) span used) =
    left_out t.without (length (numbered (house_of h) span used)) (length os) (omega (arith, s.without_is, number, count)) in
    ap (λ (n : ℕ). decimal n ∷ decimal t.count ∷ []) without
    ∙ ap (λ (n : ℕ). decimal (length os - length (numbered (house_of h) span used)) ∷ decimal n ∷ []) count

pub mark_beside : {A : Type 0} (h : house_type.House A) (x : holder_type.Holder) (span used : ℕ) (t : Total) → (x ≡ holders.House → ⊥) → AreGradedAll h.places.items
    → t ≡ total_of (holder_of x) span used h.places.items
    → grade_name t.grade ∷ [] ≡ beside_sum (house_of h) (holder_of x) span used
mark_beside h (holders.User n) span used t other graded is = ap (λ (g : Grade). grade_name g ∷ []) (mark_one h (user n) span used t graded is)
mark_beside h (holders.Flat name) span used t other graded is = ap (λ (g : Grade). grade_name g ∷ []) (mark_one h (flat name.now) span used t graded is)
mark_beside h holders.House span used t other graded is = absurd (other refl)

pub house_beside : {A : Type 0} (h : house_type.House A) (x : holder_type.Holder) (span used : ℕ) (t : Total) → x ≡ holders.House → IsHouse (house_of h) → AreGradedAll h.places.items
    → t ≡ total_of (holder_of x) span used h.places.items
    → decimal t.without ∷ decimal t.count ∷ [] ≡ beside_sum (house_of h) (holder_of x) span used
house_beside h holders.House span used t e sound graded is = counts_beside h span used t sound graded is
house_beside h (holders.User n) span used t e sound graded is = absurd cc
house_beside h (holders.Flat name) span used t e sound graded is = absurd cc
