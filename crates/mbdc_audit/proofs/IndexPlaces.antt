-- What is computed of the places of a flat is computed of all places.
use Rattle.std.proofs.Common.{arith, ◌≡◌, ◌≢◌, ◌&&◌, ◌||◌, ◌+◌, ◌-◌, ◌<◌, ◌≤◌, ℕ, Bor, zero, suc, List, [], ◌∷◌, ◌++◌, Bool, true, false, Option, None, Some, filter, length, take}
use Rattle.std.proofs.Common.{refl, sym, ap, ◌∙◌, subst, if◌then◌else◌, fold, get_or, append-nil}
use Rattle.std.specs.Prelude.{◌==◌, All, AllPairs, Any, find, option_map, option_to_list, slice_get}
use Rattle.std.specs.List.{list_all, list_any}
use Rattle.std.specs.Str.{bytes_eq}
use Rattle.std.specs.Cmp.Lexicographic.{bytes_decides}
use Rattle.std.proofs.lemmas.Bool.{eq-eqb, eqb-true, false≢true}
use Rattle.std.proofs.lemmas.Bool.Decides.{nat_tests}
use Rattle.std.proofs.lemmas.List.{take_all, take_more}
use Rattle.std.proofs.lemmas.List.Concat.{flat_map-append}
use Rattle.std.proofs.lemmas.List.Elements.{filter_more}
use Rattle.std.proofs.lemmas.List.Sums.{fold-append}
use Rattle.std.proofs.lemmas.Option.{same_Some, slice_get_past, slice_get_read}
use Rattle.mbdc_audit.specs.declared.grade.Grade.{Grade}
use Rattle.mbdc_audit.specs.declared.grade.Grade.TheVariants.{Missing}
use Rattle.mbdc_audit.specs.declared.house.House as house_type
use Rattle.mbdc_audit.specs.declared.house.Part as part_type
use Rattle.mbdc_audit.specs.declared.house.Place as place_type
use Rattle.mbdc_audit.specs.declared.house.User as user_type
use Rattle.mbdc_audit.specs.declared.house.Window as window_type
use Rattle.mbdc_audit.specs.declared.index.Index as index_type
use Rattle.mbdc_audit.specs.declared.numbers.Holder as holder_type
use Rattle.mbdc_audit.specs.declared.numbers.Holder.TheVariants as holders
use Rattle.mbdc_audit.specs.declared.numbers.Total.{Total}
use Rattle.mbdc_audit.specs.House.{Span, User, at as at_end}
use Rattle.mbdc_audit.specs.Index.{at, flat_key}
use Rattle.mbdc_audit.specs.Published.{Holder, flat, is_part_user, user}
use Rattle.mbdc_audit.specs.Sound.{begin_at, end_at, IsHouse, IsPlace, IsUserOf, IsWindow}
use Rattle.mbdc_audit.specs.Totals.{HasNoPart, has_own, is_filled, is_window_own, joined, or_missing, picked, place_sum, share_in, total_with, window_sum}
use Rattle.mbdc_audit.specs.View.{house_of, part_of, place_of, run_of, user_of, window_of}
use Rattle.mbdc_audit.specs.Walk.{holder_of, is_held_part}
use Rattle.mbdc_audit.proofs.Checks.{all_map}
use Rattle.mbdc_audit.proofs.Shares.{first_of, rest_of}
use Rattle.mbdc_audit.proofs.Whole.{user_is as found_of}

-- ---- the numbers of a key

picked_if : {X : Type 0} (xs : List X) (ns : List ℕ) (i : ℕ) (x : X) (b : Bool) → slice_get xs i ≡ Some x
    → picked xs (if b then ns ++ i ∷ [] else ns) ≡ picked xs ns ++ (if b then x ∷ [] else [])
picked_if {X} xs ns i x true e = flat_map-append (λ n. option_to_list (slice_get xs n)) ns (i ∷ [])
    ∙ ap (λ (o : Option X). picked xs ns ++ (option_to_list o ++ [])) e
picked_if xs ns i x false e = sym (append-nil (picked xs ns))

abbrev pub of_key : {A : Type 0} → ℕ → place_type.Place A → Bool
of_key key p = key == flat_key p.flat.now

-- the first places are found by their flats
abbrev pub IsIndexed : {A : Type 0} → index_type.Index A → List (place_type.Place A) → ℕ → Type 0
IsIndexed i places n = (key : ℕ) → picked places (at i key) ≡ filter (of_key key) (take n places)

pub index_more : {A : Type 0} (old new : index_type.Index A) (places : List (place_type.Place A)) (n key : ℕ) (x : place_type.Place A)
    → n < length places → x ≡ get_or places n x → key ≡ flat_key x.flat.now
    → ((k : ℕ) → at new k ≡ (if k == key then at old k ++ n ∷ [] else at old k))
    → IsIndexed old places n → IsIndexed new places (n + 1)
index_more {A} old new places n key x below is of adds before k =
    ap (λ (ns : List ℕ). picked places ns) (adds k)
    ∙ (picked_if places (at old k) n x (k == key) (slice_get_read places (length places) n x refl below is)
    ∙ (ap (λ (ps : List (place_type.Place A)). ps ++ (if k == key then x ∷ [] else [])) (before k)
    ∙ (ap (λ (m : ℕ). filter (of_key k) (take n places) ++ (if k == m then x ∷ [] else [])) of
    ∙ (ap (λ (p : place_type.Place A). filter (of_key k) (take n places) ++ (if of_key k p then p ∷ [] else [])) is
    ∙ sym (filter_more (of_key k) places n x below)))))

-- ---- what is computed along them

pub fold_next : {X Y : Type 0} (f : Y → X → Y) (z : Y) (xs : List X) (ns : List ℕ) (i d : ℕ) → i < length ns
    → fold f z (picked xs (take (i + 1) ns)) ≡ fold f (fold f z (picked xs (take i ns))) (option_to_list (slice_get xs (get_or ns i d)))
fold_next {X} {Y} f z xs ns i d below =
    let one : List X = option_to_list (slice_get xs (get_or ns i d)) in
    ap (λ (l : List ℕ). fold f z (picked xs l)) (take_more ns i d below)
    ∙ (ap (λ (l : List X). fold f z l) (flat_map-append (λ n. option_to_list (slice_get xs n)) (take i ns) (get_or ns i d ∷ []))
    ∙ (fold-append f z (picked xs (take i ns)) (one ++ [])
    ∙ ap (λ (l : List X). fold f (fold f z (picked xs (take i ns))) l) (append-nil one)))

skip_one : {X Y : Type 0} (f : Y → X → Y) (test : X → Bool) (x : X) (xs : List X) (b : Bool) (z : Y) → (b ≡ false → f z x ≡ z)
    → ((y : Y) → fold f y (filter test xs) ≡ fold f y xs)
    → fold f z (if b then x ∷ filter test xs else filter test xs) ≡ fold f (f z x) xs
skip_one f test x xs true z skip more = more (f z x)
skip_one {X} {Y} f test x xs false z skip more = more z ∙ ap (λ (y : Y). fold f y xs) (sym (skip refl))

fold_skips : {X Y : Type 0} (f : Y → X → Y) (test : X → Bool) (xs : List X) → All (λ x. test x ≡ false → (y : Y) → f y x ≡ y) xs
    → (z : Y) → fold f z (filter test xs) ≡ fold f z xs
fold_skips f test [] all z = refl
fold_skips {X} {Y} f test (x ∷ xs) all z = skip_one f test x xs (test x) z
    (λ e. first_of (λ x. test x ≡ false → (y : Y) → f y x ≡ y) x xs all e z)
    (fold_skips f test xs (rest_of (λ x. test x ≡ false → (y : Y) → f y x ≡ y) x xs all))

of_other : (m n : ℕ) → (m == n) ≡ false → m ≢ n
of_other m n e same = false≢true (sym e ∙ eq-eqb m n same)

-- a fold to which other keys' places add nothing
pub fold_all : {A Y : Type 0} (f : Y → place_type.Place A → Y) (z : Y) (key : ℕ) (places : List (place_type.Place A)) (ns : List ℕ)
    → picked places ns ≡ filter (of_key key) places → All (λ p. key ≢ flat_key p.flat.now → (y : Y) → f y p ≡ y) places
    → fold f z (picked places ns) ≡ fold f z places
fold_all {A} f z key places ns is none =
    ap (λ (ps : List (place_type.Place A)). fold f z ps) is
    ∙ fold_skips f (of_key key) places (λ k d lt e. none k d lt (of_other key (flat_key (get_or places k d).flat.now) e)) z

-- ---- places without parts of a holder

no_share : (who : Holder) (name : List ℕ) (parts : List part_type.Part) → All (λ x. is_held_part who name x ≡ false) parts
    → share_in who name parts ≡ None
no_share who name [] none = refl
no_share who name (x ∷ parts) none =
    ap (λ (b : Bool). if b then Some (joined x (share_in who name parts)) else share_in who name parts)
    (first_of (λ x. is_held_part who name x ≡ false) x parts none)
    ∙ no_share who name parts (rest_of (λ x. is_held_part who name x ≡ false) x parts none)

same_if : {X : Type 0} (b : Bool) (x y : X) → x ≡ y → (if b then x else y) ≡ y
same_if true x y e = e
same_if false x y e = refl

abbrev HasNone : Holder → List ℕ → List part_type.Part → Type 0
HasNone who name parts = All (λ x. is_held_part who name x ≡ false) parts

no_windows : {A : Type 0} (who : Holder) (span : ℕ) (p : place_type.Place A) (ws : List (window_type.Window A))
    → All (λ w. HasNone who p.flat.now w.parts.items) ws → (t : Total) → fold (window_sum who span p) t ws ≡ t
no_windows who span p [] none t = refl
no_windows {A} who span p (w ∷ ws) none t =
    let share : share_in who p.flat.now w.parts.items ≡ None = no_share who p.flat.now w.parts.items
    (first_of (λ (w : window_type.Window A). HasNone who p.flat.now w.parts.items) w ws none) in
    ap (λ (u : Total). fold (window_sum who span p) u ws)
    (same_if (w.span == span) (total_with t p.weight (share_in who p.flat.now w.parts.items)) t (ap (λ (s : Option (ℕ × Grade)). total_with t p.weight s) share))
    ∙ no_windows who span p ws (rest_of (λ (w : window_type.Window A). HasNone who p.flat.now w.parts.items) w ws none) t

pub no_place : {A : Type 0} (who : Holder) (span used : ℕ) (p : place_type.Place A) → HasNoPart who p → (t : Total)
    → place_sum who span used t p ≡ t
no_place who span used p none t = same_if (p.used == used) (fold (window_sum who span p) t p.windows.items) t (no_windows who span p p.windows.items none t)

not_true : (b : Bool) → b ≢ true → b ≡ false
not_true b never = elim b as (λ (c : Bool). c ≢ true → c ≡ false) [ true ↦ λ x. absurd (x refl) | false ↦ λ x. refl ] never

other_name : (a b : List ℕ) → flat_key a ≢ flat_key b → bytes_eq a b ≡ false
other_name a b other = not_true (bytes_eq a b) (λ e. other (ap flat_key ((bytes_decides a b).0 e)))

pub flat_parts : {A : Type 0} (name : List ℕ) (p : place_type.Place A) → flat_key name ≢ flat_key p.flat.now → HasNoPart (flat name) p
flat_parts name p other i w lt j x lt' = other_name name p.flat.now other

-- ---- a user's parts are in places of the user's flat

below_not : (a n : ℕ) → a < n → (a == n) ≡ false
below_not a n lt = grind (arith, nat_tests)

only_one : (n : ℕ) (us : List User) (v : User) (k : ℕ) (u : User) → AllPairs (λ a b. a.number < b.number) us
    → k < length us → get_or us k u ≡ u → u.number ≡ n → find (λ u. u.number == n) us ≡ Some v → v ≡ u
only_one n [] v k u pairs below is one found = absurd (omega (arith, below))
only_one n (x ∷ us) v zero u pairs below is one found =
    let e : (x.number == n) ≡ true = eq-eqb x.number n (ap (λ (y : User). y.number) is ∙ one) in
    sym (same_Some _ _ (sym (ap (λ (b : Bool). if b then Some x else find (λ u. u.number == n) us) e) ∙ found)) ∙ is
only_one n (x ∷ us) v (suc k) u pairs below is one found =
    let lt : x.number < n = subst (λ (m : ℕ). x.number < m) (ap (λ (y : User). y.number) is ∙ one) (pairs 0 (suc k) u (omega arith) below) in
    only_one n us v k u (λ i j d ij jl. pairs (suc i) (suc j) d (omega (arith, ij)) (omega (arith, jl))) (omega (arith, below)) is one
    (sym (ap (λ (b : Bool). if b then Some x else find (λ u. u.number == n) us) (below_not x.number n lt)) ∙ found)

user_is : {A : Type 0} (h : house_type.House A) (n : ℕ) (u : user_type.User) (f : List ℕ) → IsHouse (house_of h)
    → find (λ u. u.number == n) h.users.items ≡ Some u → Any (λ u. (u.number ≡ n) × (u.flat ≡ f)) (house_of h).users → u.flat.now ≡ f
user_is h n u f sound found any =
    ap (λ (v : User). v.flat) (only_one n (house_of h).users (user_of u) any.0 any.1 sound.built.users any.2 any.3 any.4.0
    (found_of n h.users.items ∙ ap (λ (v : Option user_type.User). option_map user_of v) found))
    ∙ any.4.1

user_part : {A : Type 0} (h : house_type.House A) (n : ℕ) (f : List ℕ) (m : Option ℕ)
    → (Any (λ u. (u.number ≡ n) × (u.flat ≡ f)) (house_of h).users → ⊥) → IsUserOf (house_of h) f m → is_part_user n m ≡ false
user_part h n f None never of = refl
user_part h n f (Some m) never of = not_true (n == m) (λ e.
    never (subst (λ (k : ℕ). Any (λ u. (u.number ≡ k) × (u.flat ≡ f)) (house_of h).users) (sym (eqb-true n m e)) of))

user_parts : {A : Type 0} (h : house_type.House A) (n : ℕ) → IsHouse (house_of h)
    → All (λ p. (Any (λ u. (u.number ≡ n) × (u.flat ≡ p.flat.now)) (house_of h).users → ⊥) → HasNoPart (user n) p) h.places.items
user_parts {A} h n sound k d lt never =
    let p : place_type.Place A = get_or h.places.items k d in
    let place : IsPlace (house_of h) (place_of p) = (all_map (IsPlace (house_of h)) place_of h.places.items).0 sound.places k d lt in
    λ i w lt' j x lt''.
    let one : window_type.Window A = get_or p.windows.items i w in
    let window = (all_map (λ v. (s : Span) × (slice_get (house_of h).spans v.span ≡ Some s) × IsWindow (house_of h) (place_of p) v s) window_of p.windows.items).0 place.windows i w lt' in
    user_part h n p.flat.now (get_or one.parts.items j x).user never
    ((all_map (λ y. IsUserOf (house_of h) p.flat.now y.user) part_of one.parts.items).0 window.2.parts.users j x lt'')

-- ---- a sum of nothing

pub of_none : (t u : Total) → t ≡ u → t.count ≡ 0
    → record { plain = t.plain; weighted = t.weighted; grade = Missing; count = t.count; without = t.without } ≡ or_missing u
of_none t u is none = ap (λ (b : Bool). if b then record t { grade = Missing } else t) (sym (eq-eqb t.count 0 none)) ∙ ap or_missing is

pub of_some : (t u : Total) → t ≡ u → t.count ≢ 0 → t ≡ or_missing u
of_some t u is some = ap (λ (b : Bool). if b then record t { grade = Missing } else t) (sym (not_true (t.count == 0) (λ e. some (eqb-true t.count 0 e)))) ∙ ap or_missing is

-- ---- one number more

step_some : {X Y : Type 0} (f : Y → X → Y) (z y : Y) (xs : List X) (ns : List ℕ) (i d : ℕ) (x : X) → i < length ns
    → get_or ns i d < length xs → x ≡ get_or xs (get_or ns i d) x
    → y ≡ fold f z (picked xs (take i ns)) → f y x ≡ fold f z (picked xs (take (i + 1) ns))
step_some {X} {Y} f z y xs ns i d x below lt is e =
    ap (λ (v : Y). f v x) e
    ∙ (ap (λ (o : Option X). fold f (fold f z (picked xs (take i ns))) (option_to_list o)) (sym (slice_get_read xs (length xs) (get_or ns i d) x refl lt is))
    ∙ sym (fold_next f z xs ns i d below))

step_none : {X Y : Type 0} (f : Y → X → Y) (z y : Y) (xs : List X) (ns : List ℕ) (i d : ℕ) → i < length ns
    → length xs ≤ get_or ns i d → y ≡ fold f z (picked xs (take i ns)) → y ≡ fold f z (picked xs (take (i + 1) ns))
step_none {X} {Y} f z y xs ns i d below past e =
    e ∙ (ap (λ (o : Option X). fold f (fold f z (picked xs (take i ns))) (option_to_list o)) (sym (slice_get_past xs (get_or ns i d) past))
    ∙ sym (fold_next f z xs ns i d below))

pub next_some : {X Y : Type 0} (f : Y → X → Y) (z y : Y) (xs ds : List X) (ns items : List ℕ) (i d : ℕ) (x : X) → ds ≡ xs → items ≡ ns
    → i < length items → get_or items i d < length ds → x ≡ get_or ds (get_or items i d) x
    → y ≡ fold f z (picked xs (take i ns)) → f y x ≡ fold f z (picked xs (take (i + 1) ns))
next_some {X} {Y} f z y xs ds ns items i d x same of below lt is =
    subst (λ (l : List X). y ≡ fold f z (picked l (take i ns)) → f y x ≡ fold f z (picked l (take (i + 1) ns))) same
    (subst (λ (l : List ℕ). y ≡ fold f z (picked ds (take i l)) → f y x ≡ fold f z (picked ds (take (i + 1) l))) of
    (step_some f z y ds items i d x below lt is))

pub next_none : {X Y : Type 0} (f : Y → X → Y) (z y : Y) (xs ds : List X) (ns items : List ℕ) (i d : ℕ) → ds ≡ xs → items ≡ ns
    → i < length items → length ds ≤ get_or items i d
    → y ≡ fold f z (picked xs (take i ns)) → y ≡ fold f z (picked xs (take (i + 1) ns))
next_none {X} {Y} f z y xs ds ns items i d same of below past =
    subst (λ (l : List X). y ≡ fold f z (picked l (take i ns)) → y ≡ fold f z (picked l (take (i + 1) ns))) same
    (subst (λ (l : List ℕ). y ≡ fold f z (picked ds (take i l)) → y ≡ fold f z (picked ds (take (i + 1) l))) of
    (step_none f z y ds items i d below past))

-- after the last one
pub last_one : {A Y : Type 0} (f : Y → place_type.Place A → Y) (z y : Y) (key i : ℕ) (places : List (place_type.Place A)) (ns items : List ℕ) → items ≡ ns
    → length items ≤ i → picked places ns ≡ filter (of_key key) places → All (λ p. key ≢ flat_key p.flat.now → (y : Y) → f y p ≡ y) places
    → y ≡ fold f z (picked places (take i ns)) → y ≡ fold f z places
last_one {A} {Y} f z y key i places ns items of past is none e =
    e ∙ (ap (λ (l : List ℕ). fold f z (picked places l)) (take_all i ns (subst (λ (l : List ℕ). length l ≤ i) of past)) ∙ fold_all f z key places ns is none)

pub none_added : {A : Type 0} (who : Holder) (span used key : ℕ) (places : List (place_type.Place A))
    → All (λ p. key ≢ flat_key p.flat.now → HasNoPart who p) places
    → All (λ p. key ≢ flat_key p.flat.now → (t : Total) → place_sum who span used t p ≡ t) places
none_added who span used key places none k d lt other = no_place who span used (get_or places k d) (none k d lt other)

-- ---- by holder

pub flat_none : {A : Type 0} (x : holder_type.Holder) (name : Bor (List ℕ)) (places : List (place_type.Place A)) → x ≡ holders.Flat name
    → All (λ p. flat_key name.now ≢ flat_key p.flat.now → HasNoPart (holder_of x) p) places
flat_none x name places is k d lt other =
    subst (λ (y : holder_type.Holder). HasNoPart (holder_of y) (get_or places k d)) (sym is) (flat_parts name.now (get_or places k d) other)

pub user_none : {A : Type 0} (h : house_type.House A) (x : holder_type.Holder) (n : ℕ) (u : user_type.User) → x ≡ holders.User n
    → ((m : ℕ) → holder_of x ≡ user m → IsHouse (house_of h)) → find (λ u. u.number == n) h.users.items ≡ Some u
    → All (λ p. flat_key u.flat.now ≢ flat_key p.flat.now → HasNoPart (holder_of x) p) h.places.items
user_none h x n u is sound found k d lt other =
    let house : IsHouse (house_of h) = sound n (ap holder_of is) in
    subst (λ (y : holder_type.Holder). HasNoPart (holder_of y) (get_or h.places.items k d)) (sym is)
    (user_parts h n house k d lt (λ any. other (ap flat_key (user_is h n u (get_or h.places.items k d).flat.now house found any))))

-- ---- whether one, or each, is so

abbrev pub any_of : {X : Type 0} → (X → Bool) → Bool → X → Bool
any_of t b x = t x || b

abbrev pub all_of : {X : Type 0} → (X → Bool) → Bool → X → Bool
all_of t b x = t x && b

or_last : (a b c : Bool) → (a || (b || c)) ≡ ((b || a) || c)
or_last true true c = refl
or_last true false c = refl
or_last false true c = refl
or_last false false c = refl

and_true : (b : Bool) → (b && true) ≡ b
and_true true = refl
and_true false = refl

and_last : (a b c : Bool) → (a && (b && c)) ≡ ((b && a) && c)
and_last true b c = ap (λ (d : Bool). d && c) (sym (and_true b))
and_last false true c = refl
and_last false false c = refl

and_false : (b : Bool) → (b && false) ≡ false
and_false true = refl
and_false false = refl

or_false : (b : Bool) → (b || false) ≡ b
or_false true = refl
or_false false = refl

any_fold : {X : Type 0} (t : X → Bool) (b : Bool) (xs : List X) → fold (any_of t) b xs ≡ (list_any t xs || b)
any_fold t b [] = refl
any_fold t b (x ∷ xs) = any_fold t (t x || b) xs ∙ or_last (list_any t xs) (t x) b

all_fold : {X : Type 0} (t : X → Bool) (b : Bool) (xs : List X) → fold (all_of t) b xs ≡ (list_all t xs && b)
all_fold t b [] = refl
all_fold t b (x ∷ xs) = all_fold t (t x && b) xs ∙ and_last (list_all t xs) (t x) b

no_own : {A : Type 0} (name : List ℕ) (used span : ℕ) (p : place_type.Place A) → flat_key name ≢ flat_key p.flat.now → has_own name used span p ≡ false
no_own name used span p other =
    ap (λ (b : Bool). (p.used == used) && (b && list_any (λ w. w.span == span) p.windows.items)) (other_name name p.flat.now other)
    ∙ and_false (p.used == used)

is_unfilled : {A : Type 0} (who : ℕ) (name : List ℕ) (used span : ℕ) (s : Span) (p : place_type.Place A) → flat_key name ≢ flat_key p.flat.now
    → is_filled who name used span s p ≡ true
is_unfilled who name used span s p other = ap (λ (b : Bool). if b then (begin_at (option_map run_of (slice_get p.runs.items 0)) (at_end s.from) == at_end s.from)
    && ((end_at (option_map run_of (slice_get p.runs.items (length p.runs.items - 1))) (at_end s.to) == at_end s.to)
    && list_all (is_window_own who span) p.windows.items) else true) (no_own name used span p other)

-- of the places of a flat's key, as of all
pub own_is : {A : Type 0} (name : List ℕ) (used span i : ℕ) (places : List (place_type.Place A)) (ns items : List ℕ) (b : Bool) → items ≡ ns
    → length items ≤ i → picked places ns ≡ filter (of_key (flat_key name)) places
    → b ≡ fold (any_of (has_own name used span)) false (picked places (take i ns)) → b ≡ list_any (has_own name used span) places
own_is name used span i places ns items b of past is e =
    last_one (any_of (has_own name used span)) false b (flat_key name) i places ns items of past is
    (λ k d lt other y. ap (λ (c : Bool). c || y) (no_own name used span (get_or places k d) other)) e
    ∙ (any_fold (has_own name used span) false places ∙ or_false (list_any (has_own name used span) places))

pub filled_are : {A : Type 0} (who : ℕ) (name : List ℕ) (used span : ℕ) (s : Span) (i : ℕ) (places : List (place_type.Place A)) (ns items : List ℕ) (b : Bool)
    → items ≡ ns → length items ≤ i → picked places ns ≡ filter (of_key (flat_key name)) places
    → b ≡ fold (all_of (is_filled who name used span s)) true (picked places (take i ns)) → b ≡ list_all (is_filled who name used span s) places
filled_are who name used span s i places ns items b of past is e =
    last_one (all_of (is_filled who name used span s)) true b (flat_key name) i places ns items of past is
    (λ k d lt other y. ap (λ (c : Bool). c && y) (is_unfilled who name used span s (get_or places k d) other)) e
    ∙ (all_fold (is_filled who name used span s) true places ∙ and_true (list_all (is_filled who name used span s) places))
