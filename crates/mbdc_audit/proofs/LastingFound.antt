-- The last value of a run at a moment is the one that counts.
use Rattle.std.proofs.Common.{arith, ◌≡◌, ◌&&◌, ◌+◌, ◌<◌, ◌≤◌, ℕ, zero, suc, List, [], ◌∷◌, ◌++◌, Bool, true, false, map, length, fold, Option, None, Some, is_some}
use Rattle.std.proofs.Common.{refl, sym, ap, ◌∙◌, subst, if◌then◌else◌, inl, inr, get_or, eqb-true, eq-eqb}
use Rattle.std.specs.Prelude.{◌==◌, ◌↔◌, ◌⊎◌, All, AllPairs, Any, Result, Ok, Err}
use Rattle.std.specs.List.{list_any}
use Rattle.mbdc_audit.specs.declared.house.Value as value_type
use Rattle.mbdc_audit.specs.House.{Value, put}
use Rattle.mbdc_audit.specs.Amount.{counting, is_again, is_same, known, no_text}
use Rattle.mbdc_audit.specs.Judged.{found_at}
use Rattle.mbdc_audit.specs.Sound.{After}
use Rattle.mbdc_audit.specs.View.{amount_or_0, as_known, known_in, seen_value, value_by}
use Rattle.mbdc_audit.specs.Walk.{AreFound, is_found, of_result}
use Rattle.mbdc_audit.proofs.AllOpened.{all_more, length_of}
use Rattle.mbdc_audit.proofs.Said.{both}
use Rattle.mbdc_audit.proofs.Shares.{rest_of}

-- ---- each value has evidence

shorter : {E : Type 0} (v : value_type.Value) (r : Result ℕ E) (rest : List Value) (n : ℕ) → length rest ≤ n
    → length (map (as_known v.is_again) (value_by v r) ++ rest) ≤ suc n
shorter v (Ok amount) rest n le = omega (arith, le)
shorter v (Err why) rest n le = omega (arith, le)

at_most : (values : List value_type.Value) → length (known_in values) ≤ length values
at_most [] = omega arith
at_most (v ∷ values) = shorter v v.found (known_in values) (length values) (at_most values)

has_one : {E : Type 0} (v : value_type.Value) (r : Result ℕ E) (rest : List Value) (n : ℕ) → length rest ≤ n
    → length (map (as_known v.is_again) (value_by v r) ++ rest) ≡ suc n → (is_found r ≡ true) × (length rest ≡ n)
has_one v (Ok amount) rest n le e = (refl, omega (arith, e))
has_one v (Err why) rest n le e = absurd (omega (arith, le, e))

found_all : (values : List value_type.Value) → length (known_in values) ≡ length values → AreFound values
found_all [] e = λ k d lt. absurd (omega (arith, lt))
found_all (v ∷ values) e =
    let one = has_one v v.found (known_in values) (length values) (at_most values) e in
    all_more (λ v. is_found v.found ≡ true) v values one.0 (found_all values one.1)

pub are_found : (values : List value_type.Value) → known_in values ≡ known (map seen_value values) → AreFound values
are_found values e = found_all values (ap (λ (l : List Value). length l) e
    ∙ (length_of (λ v. if list_any (is_again v) (map seen_value values) then record v { source = put true no_text } else v) (map seen_value values)
    ∙ length_of seen_value values))

-- ---- the last one, of values as definitions have them

abbrev step : ℕ → ℕ → Option ℕ → Value → Option ℕ
step run moment before v = if (v.run + 1 == run) && (v.moment == moment) then Some v.amount else before

and_true : (a b : Bool) → (a && (b && true)) ≡ (a && b)
and_true true true = refl
and_true true false = refl
and_true false b = refl

step_as : {E : Type 0} (run moment : ℕ) (before : Option ℕ) (v : value_type.Value) (r : Result ℕ E) → is_found r ≡ true
    → (if (v.run + 1 == run) && ((v.moment == moment) && is_some (of_result r)) then of_result r else before)
    ≡ (if (v.run + 1 == run) && (v.moment == moment) then Some (amount_or_0 r) else before)
step_as run moment before v (Ok amount) is = ap (λ (b : Bool). if b then Some amount else before) (and_true (v.run + 1 == run) (v.moment == moment))
step_as run moment before v (Err why) is = absurd cc

last_as : (run moment : ℕ) (before : Option ℕ) (values : List value_type.Value) → AreFound values
    → fold (found_at run moment) before values ≡ fold (step run moment) before (map seen_value values)
last_as run moment before [] found = refl
last_as run moment before (v ∷ values) found =
    ap (λ (b : Option ℕ). fold (found_at run moment) b values) (step_as run moment before v v.found (found 0 v (omega arith)))
    ∙ last_as run moment (step run moment before (seen_value v)) values (rest_of (λ v. is_found v.found ≡ true) v values found)

-- ---- it counts

abbrev IsIt : ℕ → ℕ → ℕ → Value → Type 0
IsIt run moment amount v = (v.run + 1 ≡ run) × (v.moment ≡ moment) × (v.amount ≡ amount)

any_first : {X : Type 0} (P : X → Type 0) (x : X) (xs : List X) → P x → Any P (x ∷ xs)
any_first P x xs p = (0, x, omega arith, refl, p)

any_more : {X : Type 0} (P : X → Type 0) (x : X) (xs : List X) → Any P xs → Any P (x ∷ xs)
any_more P x xs any = (suc any.0, any.1, omega (arith, any.2), any.3, any.4)

any_kept : {X : Type 0} (P : X → Type 0) (x : X) (xs : List X) (b : Bool) → Any P xs → Any P (if b then xs else x ∷ xs)
any_kept P x xs true any = any
any_kept P x xs false any = any_more P x xs any

some_same : (n m : ℕ) → Some n ≡ Some m → n ≡ m
some_same n m e = cc

step_by : (run moment amount : ℕ) (before : Option ℕ) (a : Value) (p q : Bool) → (a.run + 1 == run) ≡ p → (a.moment == moment) ≡ q
    → (if p && q then Some a.amount else before) ≡ Some amount → (before ≡ Some amount) ⊎ IsIt run moment amount a
step_by run moment amount before a true true e f is = inr (eqb-true (a.run + 1) run e, eqb-true a.moment moment f, some_same a.amount amount is)
step_by run moment amount before a true false e f is = inl is
step_by run moment amount before a false q e f is = inl is

step_is : (run moment amount : ℕ) (before : Option ℕ) (a : Value) → step run moment before a ≡ Some amount → (before ≡ Some amount) ⊎ IsIt run moment amount a
step_is run moment amount before a is = step_by run moment amount before a (a.run + 1 == run) (a.moment == moment) refl refl is

step_at : (run moment : ℕ) (before : Option ℕ) (v : Value) → v.run + 1 ≡ run → v.moment ≡ moment → step run moment before v ≡ Some v.amount
step_at run moment before v e f =
    ap (λ (b : Bool). if b && (v.moment == moment) then Some v.amount else before) (eq-eqb (v.run + 1) run e)
    ∙ ap (λ (b : Bool). if b then Some v.amount else before) (eq-eqb v.moment moment f)

not_none : {P : Type 0} (n : ℕ) → None ≡ Some n → P
not_none n e = absurd cc

-- the first one doesn't count where the next one is of its run and moment
first_is : (run moment amount : ℕ) (y : Option ℕ) (a b : Value) (rest : List Value) (same : Bool) → ((a.run == b.run) && (a.moment == b.moment)) ≡ same
    → IsIt run moment amount a → fold (step run moment) y (b ∷ rest) ≡ Some amount
    → (fold (step run moment) None (b ∷ rest) ≡ Some amount → (None ≡ Some amount) ⊎ Any (IsIt run moment amount) (counting (b ∷ rest)))
    → Any (IsIt run moment amount) (if same then counting (b ∷ rest) else a ∷ counting (b ∷ rest))
first_is run moment amount y a b rest false e it is more = any_first (IsIt run moment amount) a (counting (b ∷ rest)) it
first_is run moment amount y a b rest true e it is more =
    let two = both (a.run == b.run) (a.moment == b.moment) e in
    let of_run : b.run + 1 ≡ run = ap (λ (n : ℕ). n + 1) (sym (eqb-true a.run b.run two.0)) ∙ it.0 in
    let at : b.moment ≡ moment = sym (eqb-true a.moment b.moment two.1) ∙ it.1 in
    let one : step run moment None b ≡ step run moment y b = step_at run moment None b of_run at ∙ sym (step_at run moment y b of_run at) in
    elim (more (ap (λ (z : Option ℕ). fold (step run moment) z rest) one ∙ is)) [ inl none ↦ not_none amount none | inr any ↦ any ]

last_is : (run moment amount : ℕ) (before : Option ℕ) (values : List Value) → fold (step run moment) before values ≡ Some amount
    → (before ≡ Some amount) ⊎ Any (IsIt run moment amount) (counting values)
last_is run moment amount before [] is = inl is
last_is run moment amount before (a ∷ []) is =
    elim (step_is run moment amount before a is) [ inl e ↦ inl e | inr it ↦ inr (any_first (IsIt run moment amount) a [] it) ]
last_is run moment amount before (a ∷ b ∷ rest) is =
    elim (last_is run moment amount (step run moment before a) (b ∷ rest) is) [
      | inl at ↦ elim (step_is run moment amount before a at) [
        | inl e ↦ inl e
        | inr it ↦ inr (first_is run moment amount (step run moment before a) a b rest ((a.run == b.run) && (a.moment == b.moment)) refl it is
            (λ e. last_is run moment amount None (b ∷ rest) e))
      ]
      | inr any ↦ inr (any_kept (IsIt run moment amount) a (counting (b ∷ rest)) ((a.run == b.run) && (a.moment == b.moment)) any)
    ]

-- ---- no other one counts

abbrev Late : Value → Value → Type 0
Late a b = (a.moment < b.moment) ⊎ ((a.moment ≡ b.moment) × (a.run < b.run))

below : (n k : ℕ) → n ≤ k → (n ≡ k → ⊥) → n < k
below n k le not = omega arith

not_same : (a b : Value) → ((a.run == b.run) && (a.moment == b.moment)) ≡ false → a.moment ≡ b.moment → a.run ≡ b.run → ⊥
not_same a b other e f =
    let is : ((a.run == b.run) && (a.moment == b.moment)) ≡ true =
    ap (λ (x : Bool). x && (a.moment == b.moment)) (eq-eqb a.run b.run f) ∙ eq-eqb a.moment b.moment e in
    absurd (cc (other, is))

late_first : (a b : Value) → ((a.run == b.run) && (a.moment == b.moment)) ≡ false → After a b → Late a b
late_first a b other (inl lt) = inl lt
late_first a b other (inr same) = inr (same.0, below a.run b.run same.1 (λ f. not_same a b other same.0 f))

late_next : (a b c : Value) → Late a b → After b c → Late a c
late_next a b c (inl lt) (inl lt') = inl (omega (arith, lt, lt'))
late_next a b c (inl lt) (inr same) = inl (omega (arith, lt, same.0))
late_next a b c (inr same) (inl lt) = inl (omega (arith, lt, same.0))
late_next a b c (inr same) (inr same') = inr (omega (arith, same.0, same'.0), omega (arith, same.1, same'.1))

late_at : (a b : Value) (rest : List Value) → Late a b → AllPairs After (a ∷ b ∷ rest) → (k : ℕ) (d : Value) → k < length (b ∷ rest) → Late a (get_or (b ∷ rest) k d)
late_at a b rest late pairs zero d lt = late
late_at a b rest late pairs (suc k) d lt = late_next a b (get_or rest k d) late (pairs 1 (suc (suc k)) d (omega arith) (omega (arith, lt)))

not_both : (x y run moment : ℕ) (p q : Bool) → (x == run) ≡ p → (y == moment) ≡ q → (x ≡ run → y ≡ moment → ⊥) → (p && q) ≡ false
not_both x y run moment true true e f none = absurd (none (eqb-true x run e) (eqb-true y moment f))
not_both x y run moment true false e f none = refl
not_both x y run moment false q e f none = refl

not_at : (run moment : ℕ) (a v : Value) → a.run + 1 ≡ run → a.moment ≡ moment → Late a v → v.run + 1 ≡ run → v.moment ≡ moment → ⊥
not_at run moment a v e f (inl lt) g h = omega (arith, f, lt, h)
not_at run moment a v e f (inr same) g h = omega (arith, e, same.1, g)

none_later : (run moment : ℕ) (a : Value) (before : Option ℕ) (values : List Value) → a.run + 1 ≡ run → a.moment ≡ moment → All (Late a) values
    → fold (step run moment) before values ≡ before
none_later run moment a before [] e f late = refl
none_later run moment a before (v ∷ values) e f late =
    let not : ((v.run + 1 == run) && (v.moment == moment)) ≡ false =
    not_both (v.run + 1) v.moment run moment (v.run + 1 == run) (v.moment == moment) refl refl (not_at run moment a v e f (late 0 v (omega arith))) in
    ap (λ (b : Bool). fold (step run moment) (if b then Some v.amount else before) values) not
    ∙ none_later run moment a before values e f (rest_of (Late a) v values late)

any_at : {X : Type 0} (P : X → Type 0) (x : X) (xs : List X) (k : ℕ) (y : X) → k < length (x ∷ xs) → get_or (x ∷ xs) k y ≡ y → P y → P x ⊎ Any P xs
any_at P x xs zero y lt e p = inl (subst P (sym e) p)
any_at P x xs (suc k) y lt e p = inr (k, y, omega (arith, lt), e, p)

any_split : {X : Type 0} (P : X → Type 0) (x : X) (xs : List X) → Any P (x ∷ xs) → P x ⊎ Any P xs
any_split P x xs any = any_at P x xs any.0 any.1 any.2 any.3 any.4

step_it : (run moment amount : ℕ) (before : Option ℕ) (a : Value) → IsIt run moment amount a → step run moment before a ≡ Some amount
step_it run moment amount before a it = step_at run moment before a it.0 it.1 ∙ ap (λ (n : ℕ). Some n) it.2

only_by : (run moment amount : ℕ) (before : Option ℕ) (a b : Value) (rest : List Value) (same : Bool) → ((a.run == b.run) && (a.moment == b.moment)) ≡ same
    → AllPairs After (a ∷ b ∷ rest)
    → ((y : Option ℕ) → Any (IsIt run moment amount) (counting (b ∷ rest)) → fold (step run moment) y (b ∷ rest) ≡ Some amount)
    → Any (IsIt run moment amount) (if same then counting (b ∷ rest) else a ∷ counting (b ∷ rest))
    → fold (step run moment) (step run moment before a) (b ∷ rest) ≡ Some amount
only_by run moment amount before a b rest true e pairs more any = more (step run moment before a) any
only_by run moment amount before a b rest false e pairs more any =
    elim (any_split (IsIt run moment amount) a (counting (b ∷ rest)) any) [
      | inl it ↦ none_later run moment a (step run moment before a) (b ∷ rest) it.0 it.1
          (late_at a b rest (late_first a b e (pairs 0 1 a (omega arith) (omega arith))) pairs) ∙ step_it run moment amount before a it
      | inr there ↦ more (step run moment before a) there
    ]

only_one : (run moment amount : ℕ) (before : Option ℕ) (values : List Value) → AllPairs After values → Any (IsIt run moment amount) (counting values)
    → fold (step run moment) before values ≡ Some amount
only_one run moment amount before [] pairs any = absurd (omega (arith, any.2))
only_one run moment amount before (a ∷ []) pairs any =
    elim (any_split (IsIt run moment amount) a [] any) [ inl it ↦ step_it run moment amount before a it | inr none ↦ absurd (omega (arith, none.2)) ]
only_one run moment amount before (a ∷ b ∷ rest) pairs any =
    only_by run moment amount before a b rest ((a.run == b.run) && (a.moment == b.moment)) refl pairs
    (λ y there. only_one run moment amount y (b ∷ rest) (λ i j d lt lt'. pairs (suc i) (suc j) d (omega (arith, lt)) (omega (arith, lt'))) there) any

-- ---- what is published

same_some : (x y : Option ℕ) → is_same x y ≡ true → (n : ℕ) × (x ≡ Some n) × (y ≡ Some n)
same_some None y e = absurd cc
same_some (Some n) None e = absurd cc
same_some (Some n) (Some m) e = (n, refl, ap (λ (k : ℕ). Some k) (sym (eqb-true n m e)))

some_is : (x y : Option ℕ) (n : ℕ) → x ≡ Some n → y ≡ Some n → is_same x y ≡ true
some_is x y n e f = ap (λ (z : Option ℕ). is_same z y) e ∙ (ap (λ (z : Option ℕ). is_same (Some n) z) f ∙ eq-eqb n n refl)

abbrev IsSaid : ℕ → ℕ → Option ℕ → Value → Type 0
IsSaid run moment text v = (v.run + 1 ≡ run) × (v.moment ≡ moment) × (text ≡ Some v.amount)

-- A VALUE IS SAID exactly if it is the last one
pub is_value : (run moment : ℕ) (text found : Option ℕ) (values : List value_type.Value) → AreFound values → AllPairs After (map seen_value values)
    → found ≡ fold (found_at run moment) None values
    → (is_same text found ≡ true) ↔ Any (IsSaid run moment text) (counting (map seen_value values))
is_value run moment text found values all pairs is =
    let last : found ≡ fold (step run moment) None (map seen_value values) = is ∙ last_as run moment None values all in (
      λ same. let n = same_some text found same in
          elim (last_is run moment n.0 None (map seen_value values) (sym last ∙ n.2)) [
            | inl none ↦ not_none n.0 none
            | inr any ↦ (any.0, any.1, any.2, any.3, (any.4.0, any.4.1, n.1 ∙ ap (λ (k : ℕ). Some k) (sym any.4.2)))
          ],
      λ any. some_is text found any.1.amount any.4.2
          (last ∙ only_one run moment any.1.amount None (map seen_value values) pairs (any.0, any.1, any.2, any.3, (any.4.0, any.4.1, refl))),
    )
