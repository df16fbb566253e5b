-- What the tests of a readout's dates say.
use Rattle.std.proofs.Common.{arith, ◌≡◌, ◌<◌, ◌≤◌, ◌+◌, ◌*◌, ◌&&◌, ◌||◌, ℕ, zero, suc, List, [], ◌∷◌, ◌++◌, Bool, true, false, not}
use Rattle.std.proofs.lemmas.List.Elements.{All-cons}
use Rattle.std.proofs.lemmas.Bool.{and_parts}
use Rattle.std.proofs.Common.{take, nat_eq, refl, sym, ap, ◌∙◌, subst, map, filter, flat_map, drop, if◌then◌else◌, Option, None, Some, eqb-true}
use Rattle.std.specs.Prelude.{All, ◌==◌, nat_le, nat_lt, zip}
use Rattle.std.specs.List.{list_all, list_any}
use Rattle.std.specs.Option.{option_eq}
use Rattle.std.proofs.lemmas.Bool.Decides.{nat_tests}
use Rattle.std.proofs.lemmas.List.Folds.{list_all-map, list_any-append}
use Rattle.dc_records.specs.Record.{Entry}
use Rattle.mbdc_audit.specs.Dates.{days, days_in, is_first, is_near, is_near_to, is_once, is_past, may_be_own, may_be_stored}
use Rattle.mbdc_audit.specs.Evidence.{AreDatedOnce, date_in_record, dates, list_of, near}
use Rattle.mbdc_audit.specs.Walk.{MayBe}
use Rattle.mbdc_audit.specs.declared.evidence.Meant.{Meant}
use Rattle.mbdc_audit.specs.declared.evidence.Meant.TheVariants as meant
use Rattle.mbdc_audit.specs.declared.moment.Dated.{Dated}

-- ---- tests

both_true : (a b : Bool) → a ≡ true → b ≡ true → (a && b) ≡ true
both_true true b e e' = e'
both_true false b e e' = e

other_true : (a b : Bool) → (a || b) ≡ true → a ≡ false → b ≡ true
other_true true b e e' = grind arith
other_true false b e e' = e

all_of_both : {X : Type 0} (t : X → Bool) (xs ys : List X) → list_all t (xs ++ ys) ≡ (list_all t xs && list_all t ys)
all_of_both t [] ys = refl
all_of_both t (x ∷ xs) ys = elim (t x) as (λ (b : Bool). (b && list_all t (xs ++ ys)) ≡ ((b && list_all t xs) && list_all t ys))
    [ true ↦ all_of_both t xs ys | false ↦ refl ]

all_of : {X : Type 0} (P : X → Type 0) (t : X → Bool) → ((x : X) → t x ≡ true → P x) → (xs : List X)
    → list_all t xs ≡ true → All P xs
all_of P t f [] e k d lt = absurd (omega (arith, lt))
all_of P t f (x ∷ xs) e zero d lt = f x (and_parts _ _ e).0
all_of P t f (x ∷ xs) e (suc k) d lt = all_of P t f xs (and_parts _ _ e).1 k d (omega (arith, lt))

rest_of : {X : Type 0} (P : X → Type 0) (x : X) (xs : List X) → All P (x ∷ xs) → All P xs
rest_of P x xs h k d lt = h (suc k) d (omega (arith, lt))

all_by : {X : Type 0} (P : X → Type 0) (t : X → Bool) → ((x : X) → P x → t x ≡ true) → (xs : List X)
    → All P xs → list_all t xs ≡ true
all_by P t f [] h = refl
all_by P t f (x ∷ xs) h = both_true _ _ (f x (h 0 x (omega arith))) (all_by P t f xs (rest_of P x xs h))

-- ---- the dates of a storage

above : (s : ℕ) → nat_lt 0 s ≡ not (s == 0)
above zero = refl
above (suc n) = grind (arith, nat_tests)

pub own : (t : Dated → Bool) (rs : List Entry)
    → list_all (λ e. nat_lt 0 e.storage || list_all t (date_in_record e)) rs ≡ list_all t (dates 0 rs)
own t [] = refl
own t (e ∷ rs) =
    ap (λ (b : Bool). (b || list_all t (date_in_record e)) && list_all (λ x. nat_lt 0 x.storage || list_all t (date_in_record x)) rs)
    (above e.storage)
    ∙ elim (e.storage == 0) as (λ (b : Bool). ((not b || list_all t (date_in_record e))
    && list_all (λ x. nat_lt 0 x.storage || list_all t (date_in_record x)) rs)
    ≡ list_all t (flat_map date_in_record (if b then e ∷ filter (λ x. x.storage == 0) rs else filter (λ x. x.storage == 0) rs))) [
      | true ↦ ap (λ (b : Bool). list_all t (date_in_record e) && b) (own t rs)
          ∙ sym (all_of_both t (date_in_record e) (dates 0 rs))
      | false ↦ own t rs
    ]

stored_more : (t : ℕ → Dated → Bool) (e : Entry) (rs : List Entry) (s : ℕ) → 0 < s
    → ((e.storage == 0) || list_all (t e.storage) (date_in_record e)) ≡ true → list_all (t s) (dates s rs) ≡ true
    → list_all (t s) (dates s (e ∷ rs)) ≡ true
stored_more t e rs s lt one rest =
    elim (e.storage == s) as (λ (b : Bool). (b ≡ true → e.storage ≡ s)
    → list_all (t s) (flat_map date_in_record (if b then e ∷ filter (λ x. x.storage == s) rs else filter (λ x. x.storage == s) rs)) ≡ true) [
      | true ↦ λ is.
          let same : e.storage ≡ s = is refl in
          let not_own : (e.storage == 0) ≡ false = grind (arith, nat_tests) in
          let here : list_all (t s) (date_in_record e) ≡ true =
          subst (λ (x : ℕ). list_all (t x) (date_in_record e) ≡ true) same (other_true _ _ one not_own) in
          all_of_both (t s) (date_in_record e) (dates s rs) ∙ both_true _ _ here rest
      | false ↦ λ is. rest
    ] (eqb-true e.storage s)

pub stored_to : (t : ℕ → Dated → Bool) (rs : List Entry)
    → list_all (λ e. (e.storage == 0) || list_all (t e.storage) (date_in_record e)) rs ≡ true
    → (s : ℕ) → 0 < s → list_all (t s) (dates s rs) ≡ true
stored_to t [] h s lt = refl
stored_to t (e ∷ rs) h s lt = stored_more t e rs s lt (and_parts _ _ h).0 (stored_to t rs (and_parts _ _ h).1 s lt)

own_storage : (s : ℕ) → (s == s) ≡ true
own_storage s = grind (arith, nat_tests)

stored_here : (t : ℕ → Dated → Bool) (e : Entry) (rs : List Entry) (s : ℕ)
    → list_all (t s) (dates s (e ∷ rs)) ≡ true → e.storage ≡ s → list_all (t s) (date_in_record e) ≡ true
stored_here t e rs s h same =
    let is : (e.storage == s) ≡ true = grind (arith, nat_tests) in
    let both : dates s (e ∷ rs) ≡ date_in_record e ++ dates s rs =
    ap (λ (b : Bool). flat_map date_in_record (if b then e ∷ filter (λ x. x.storage == s) rs else filter (λ x. x.storage == s) rs)) is in
    (and_parts _ _ (sym (all_of_both (t s) (date_in_record e) (dates s rs)) ∙ (ap (list_all (t s)) (sym both) ∙ h))).0

stored_later : (t : ℕ → Dated → Bool) (e : Entry) (rs : List Entry) (s : ℕ)
    → list_all (t s) (dates s (e ∷ rs)) ≡ true → list_all (t s) (dates s rs) ≡ true
stored_later t e rs s h =
    elim (e.storage == s) as (λ (b : Bool).
    list_all (t s) (flat_map date_in_record (if b then e ∷ filter (λ x. x.storage == s) rs else filter (λ x. x.storage == s) rs)) ≡ true
    → list_all (t s) (dates s rs) ≡ true) [
      | true ↦ λ e'. (and_parts _ _ (sym (all_of_both (t s) (date_in_record e) (dates s rs)) ∙ e')).1
      | false ↦ λ e'. e'
    ] h

own_or : (s : ℕ) (b : Bool) → (0 < s → b ≡ true) → ((s == 0) || b) ≡ true
own_or zero b f = refl
own_or (suc n) b f = let e = f (omega arith) in grind (arith, nat_tests)

pub stored_from : (t : ℕ → Dated → Bool) (rs : List Entry)
    → ((s : ℕ) → 0 < s → list_all (t s) (dates s rs) ≡ true)
    → list_all (λ e. (e.storage == 0) || list_all (t e.storage) (date_in_record e)) rs ≡ true
stored_from t [] h = refl
stored_from t (e ∷ rs) h = both_true _ _
    (own_or e.storage (list_all (t e.storage) (date_in_record e)) (λ lt. stored_here t e rs e.storage (h e.storage lt) refl))
    (stored_from t rs (λ s lt. stored_later t e rs s (h s lt)))

-- ---- one day of a storage

map_both : (xs ys : List Dated) → map (λ d. d.day) (xs ++ ys) ≡ map (λ d. d.day) xs ++ map (λ d. d.day) ys
map_both [] ys = refl
map_both (x ∷ xs) ys = ap (λ (l : List ℕ). x.day ∷ l) (map_both xs ys)

pub days_are : (s : ℕ) (rs : List Entry) → days s rs ≡ map (λ d. d.day) (dates s rs)
days_are s [] = refl
days_are s (e ∷ rs) = elim (e.storage == s) as (λ (b : Bool).
    ((if b then map (λ (d : Dated). d.day) (date_in_record e) else []) ++ days s rs)
    ≡ map (λ (d : Dated). d.day) (flat_map date_in_record (if b then e ∷ filter (λ x. x.storage == s) rs else filter (λ x. x.storage == s) rs))) [
      | true ↦ ap (λ (l : List ℕ). map (λ (d : Dated). d.day) (date_in_record e) ++ l) (days_are s rs)
          ∙ sym (map_both (date_in_record e) (dates s rs))
      | false ↦ days_are s rs
    ]

abbrev AreOneDay : Dated × Dated → Type 0
AreOneDay p = p.0.day ≡ p.1.day

one_to : (x : ℕ) (a : Dated) (ds : List Dated) → x ≡ a.day → list_all (λ d. x == d.day) ds ≡ true → All AreOneDay (zip (a ∷ ds) ds)
one_to x a [] e h = λ k d lt. absurd (omega (arith, lt))
one_to x a (b ∷ ds) e h =
    let e' : x ≡ b.day = eqb-true x b.day (and_parts _ _ h).0 in
    All-cons AreOneDay (a, b) (zip (b ∷ ds) ds) (sym e ∙ e') (one_to x b ds e' (and_parts _ _ h).1)

one_from : (x : ℕ) (a : Dated) (ds : List Dated) → x ≡ a.day → All AreOneDay (zip (a ∷ ds) ds) → list_all (λ d. x == d.day) ds ≡ true
one_from x a [] e h = refl
one_from x a (b ∷ ds) e h =
    let e' : x ≡ b.day = e ∙ h 0 (a, b) (omega arith) in
    let is : (x == b.day) ≡ true = grind (arith, nat_tests) in
    both_true _ _ is (one_from x b ds e' (rest_of AreOneDay (a, b) (zip (b ∷ ds) ds) h))

all_one_to : (ds : List Dated) → list_all (λ d. is_first (map (λ x. x.day) ds) d.day) ds ≡ true → All AreOneDay (zip ds (drop 1 ds))
all_one_to [] h = λ k d lt. absurd (omega (arith, lt))
all_one_to (a ∷ ds) h = one_to a.day a ds refl (and_parts _ _ h).1

all_one_from : (ds : List Dated) → All AreOneDay (zip ds (drop 1 ds)) → list_all (λ d. is_first (map (λ x. x.day) ds) d.day) ds ≡ true
all_one_from [] h = refl
all_one_from (a ∷ ds) h = both_true _ _ (own_storage a.day) (one_from a.day a ds refl h)

pub once_to : (rs : List Entry) → list_all (is_once rs) rs ≡ true → AreDatedOnce rs
once_to rs h s lt = all_one_to (dates s rs)
    (subst (λ (ds : List ℕ). list_all (λ d. is_first ds d.day) (dates s rs) ≡ true) (days_are s rs)
    (stored_to (λ x d. is_first (days x rs) d.day) rs h s lt))

pub once_from : (rs : List Entry) → AreDatedOnce rs → list_all (is_once rs) rs ≡ true
once_from rs h = stored_from (λ x d. is_first (days x rs) d.day) rs (λ s lt.
    subst (λ (ds : List ℕ). list_all (λ d. is_first ds d.day) (dates s rs) ≡ true) (sym (days_are s rs))
    (all_one_from (dates s rs) (h s lt)))

-- ---- what is meant

abbrev AreNear : ℕ → Option ℕ → Type 0
AreNear moment o = (s : ℕ) → o ≡ Some s → (s ≤ moment + near) × (moment ≤ s + near)

abbrev IsAfter : ℕ → Option ℕ → Type 0
IsAfter day o = (s : ℕ) → o ≡ Some s → day * 86400 ≤ s

near_to : (m : ℕ) (o : Option ℕ) → is_near_to (meant.Current m) o ≡ true → AreNear m o
near_to m None h s e = absurd cc
near_to m (Some x) h s e = let e' : x ≡ s = cc in grind (arith, nat_tests)

near_from : (m : ℕ) (o : Option ℕ) → AreNear m o → is_near_to (meant.Current m) o ≡ true
near_from m None h = refl
near_from m (Some x) h = let h' = h x refl in grind (arith, nat_tests)

after_to : (day : ℕ) (o : Option ℕ) → is_near_to (meant.Stored day) o ≡ true → IsAfter day o
after_to day None h s e = absurd cc
after_to day (Some x) h s e = let e' : x ≡ s = cc in grind (arith, nat_tests)

after_from : (day : ℕ) (o : Option ℕ) → IsAfter day o → is_near_to (meant.Stored day) o ≡ true
after_from day None h = refl
after_from day (Some x) h = let h' = h x refl in grind (arith, nat_tests)

past_to : (x y : ℕ) → nat_le x y ≡ true → x ≤ y
past_to x y h = grind (arith, nat_tests)

past_from : (x y : ℕ) → x ≤ y → nat_le x y ≡ true
past_from x y h = grind (arith, nat_tests)

pub may_to : (by : Meant) (rs : List Entry) → list_all (may_be_own by) rs ≡ true → list_all (may_be_stored by) rs ≡ true → MayBe by rs
may_to (meant.Current m) rs one other = (
  all_of (λ d. AreNear m d.second) (is_near (meant.Current m)) (λ d. near_to m d.second) (dates 0 rs)
      (sym (own (is_near (meant.Current m)) rs) ∙ one),
  λ s lt. all_of (λ d. (d.day + 1) * 86400 ≤ m + near) (is_past (meant.Current m))
      (λ d. past_to ((d.day + 1) * 86400) (m + near)) (dates s rs) (stored_to (λ x. is_past (meant.Current m)) rs other s lt),
)
may_to (meant.Stored day) rs one other =
    all_of (λ d. IsAfter day d.second) (is_near (meant.Stored day)) (λ d. after_to day d.second) (dates 0 rs)
    (sym (own (is_near (meant.Stored day)) rs) ∙ one)

pub own_from : (by : Meant) (rs : List Entry) → MayBe by rs → list_all (may_be_own by) rs ≡ true
own_from (meant.Current m) rs h = own (is_near (meant.Current m)) rs
    ∙ all_by (λ d. AreNear m d.second) (is_near (meant.Current m)) (λ d. near_from m d.second) (dates 0 rs) h.0
own_from (meant.Stored day) rs h = own (is_near (meant.Stored day)) rs
    ∙ all_by (λ d. IsAfter day d.second) (is_near (meant.Stored day)) (λ d. after_from day d.second) (dates 0 rs) h

all_true : {X : Type 0} (xs : List X) → list_all (λ (x : X). true) xs ≡ true
all_true [] = refl
all_true (x ∷ xs) = all_true xs

pub stored_by : (by : Meant) (rs : List Entry) → MayBe by rs → list_all (may_be_stored by) rs ≡ true
stored_by (meant.Current m) rs h = stored_from (λ x. is_past (meant.Current m)) rs (λ s lt.
    all_by (λ d. (d.day + 1) * 86400 ≤ m + near) (is_past (meant.Current m))
    (λ d. past_from ((d.day + 1) * 86400) (m + near)) (dates s rs) (h.1 s lt))
stored_by (meant.Stored day) rs h = stored_from (λ x. is_past (meant.Stored day)) rs (λ s lt. all_true (dates s rs))

-- ---- a day that is meant

any_day : (day : ℕ) (xs ys : List Dated) → list_any (λ d. d == day) (map (λ (d : Dated). d.day) xs) ≡ list_any (λ d. d.day == day) xs
any_day day [] ys = refl
any_day day (x ∷ xs) ys = ap (λ (b : Bool). (x.day == day) || b) (any_day day xs ys)

any_listed : {X : Type 0} (f : X → Entry) (s day : ℕ) (rs : List X)
    → list_any (λ r. list_any (λ d. d == day) (days_in s (f r))) rs ≡ list_any (λ d. d == day) (days s (map f rs))
any_listed f s day [] = refl
any_listed f s day (r ∷ rs) =
    ap (λ (b : Bool). list_any (λ d. d == day) (days_in s (f r)) || b) (any_listed f s day rs)
    ∙ sym (list_any-append (λ (d : ℕ). d == day) (days_in s (f r)) (days s (map f rs)))

pub any_in : {X : Type 0} (f : X → Entry) (s day : ℕ) (rs : List X)
    → list_any (λ r. list_any (λ d. d == day) (days_in s (f r))) rs ≡ list_any (λ d. d.day == day) (dates s (map f rs))
any_in f s day rs = any_listed f s day rs
    ∙ (ap (list_any (λ (d : ℕ). d == day)) (days_are s (map f rs)) ∙ any_day day (dates s (map f rs)) [])

-- ---- the first day

first_same : (o : Option ℕ) (ds : List ℕ) (day : ℕ) → list_of o ≡ take 1 ds → option_eq nat_eq o (Some day) ≡ is_first ds day
first_same None [] day e = refl
first_same None (x ∷ ds) day e = absurd cc
first_same (Some x) [] day e = absurd cc
first_same (Some x) (y ∷ ds) day e = let same : x ≡ y = cc in ap (λ (z : ℕ). z == day) same

above_zero : (s : ℕ) (b : Bool) → (s ≡ 0 → ⊥) → b ≡ ((s == 0) || (b && true))
above_zero zero b some = absurd (some refl)
above_zero (suc n) true some = grind (arith, nat_tests)
above_zero (suc n) false some = grind (arith, nat_tests)

pub once_is : (rs : List Entry) (e : Entry) (o : Option ℕ) (d : Dated) → d ∷ [] ≡ date_in_record e → (e.storage ≡ 0 → ⊥)
    → list_of o ≡ take 1 (days e.storage rs) → option_eq nat_eq o (Some d.day) ≡ is_once rs e
once_is rs e o d is some one = first_same o (days e.storage rs) d.day one
    ∙ subst (λ (l : List Dated). is_first (days e.storage rs) d.day
    ≡ ((e.storage == 0) || list_all (λ x. is_first (days e.storage rs) x.day) l)) is
    (above_zero e.storage (is_first (days e.storage rs) d.day) some)

-- ---- all tests

not_both : (b : Bool) → b ≡ false → b ≡ true → ⊥
not_both b e e' = cc

pub not_once : {X : Type 0} (f : X → Entry) (rs : List X) (b : Bool) → b ≡ list_all (λ r. is_once (map f rs) (f r)) rs
    → b ≡ false → AreDatedOnce (map f rs) → ⊥
not_once f rs b e none h = not_both b none (e ∙ (sym (list_all-map (is_once (map f rs)) f rs) ∙ once_from (map f rs) h))

pub not_own : {X : Type 0} (by : Meant) (f : X → Entry) (rs : List X) (b : Bool) → b ≡ list_all (λ r. may_be_own by (f r)) rs
    → b ≡ false → MayBe by (map f rs) → ⊥
not_own by f rs b e none h = not_both b none (e ∙ (sym (list_all-map (may_be_own by) f rs) ∙ own_from by (map f rs) h))

pub not_stored : {X : Type 0} (by : Meant) (f : X → Entry) (rs : List X) (b : Bool) → b ≡ list_all (λ r. may_be_stored by (f r)) rs
    → b ≡ false → MayBe by (map f rs) → ⊥
not_stored by f rs b e none h = not_both b none (e ∙ (sym (list_all-map (may_be_stored by) f rs) ∙ stored_by by (map f rs) h))

pub all_hold : {X : Type 0} (by : Meant) (f : X → Entry) (rs : List X) (a b d : Bool)
    → a ≡ list_all (λ r. is_once (map f rs) (f r)) rs → b ≡ list_all (λ r. may_be_own by (f r)) rs
    → d ≡ list_all (λ r. may_be_stored by (f r)) rs → a ≡ true → b ≡ true → d ≡ true
    → AreDatedOnce (map f rs) × MayBe by (map f rs)
all_hold by f rs a b d ea eb ed ta tb td = (
  once_to (map f rs) (list_all-map (is_once (map f rs)) f rs ∙ (sym ea ∙ ta)),
  may_to by (map f rs) (list_all-map (may_be_own by) f rs ∙ (sym eb ∙ tb))
      (list_all-map (may_be_stored by) f rs ∙ (sym ed ∙ td)),
)
