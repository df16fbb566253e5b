-- What telegrams of a run show, of the values so far.
use Rattle.std.proofs.Common.{arith, ◌≡◌, ◌≢◌, ◌<◌, ◌≤◌, ◌+◌, ◌&&◌, ℕ, Bool, true, false, List, [], ◌∷◌, ◌++◌, length, take, filter, map, flat_map, get_or, append-nil, Option, None, Some, is_some, Result, Ok, Err, if◌then◌else◌, refl, sym, ap, ◌∙◌, subst}
use Rattle.std.specs.Prelude.{◌==◌, nat_lt}
use Rattle.std.proofs.lemmas.Bool.Decides.{nat_tests}
use Rattle.std.proofs.lemmas.Grind.{common_steps}
use Rattle.std.proofs.lemmas.List.{length_push, take_all, take_more}
use Rattle.std.proofs.lemmas.List.Concat.{flat_map-append}
use Rattle.std.proofs.lemmas.List.Elements.{filter-append}
use Rattle.mbdc_audit.specs.Amount.{last_of}
use Rattle.mbdc_audit.specs.Evidence.{list_of}
use Rattle.mbdc_audit.specs.House.{Value}
use Rattle.mbdc_audit.specs.Sound.{is_telegram, told_of}
use Rattle.mbdc_audit.specs.View.{found_of, is_told_word, source_of, value_by, value_of}
use Rattle.mbdc_audit.specs.Walk.{of_result, shown_by}
use Rattle.mbdc_audit.specs.declared.house.Value as value_type
use Rattle.mbdc_audit.proofs.Settled.{told_word}

-- ---- a value more

abbrev as_list : value_type.Value → Option ℕ → List Value
as_list v None = []
as_list v (Some n) = value_of n v ∷ []

both_ways : (v : value_type.Value) (n : ℕ) (s w : Bool)
    → (if w && s then value_of n v ∷ [] else []) ≡ as_list v (if s && w then Some n else None)
both_ways v n true true = refl
both_ways v n true false = refl
both_ways v n false true = refl
both_ways v n false false = refl

told_by : {E : Type 0} (run : ℕ) (v : value_type.Value) (r : Result ℕ E) (s w : Bool) → is_telegram (source_of v) ≡ w → (v.run == run) ≡ s
    → told_of run (value_by v r) ≡ as_list v (if s && w then of_result r else None)
told_by run v (Err e) true true a b = refl
told_by run v (Err e) true false a b = refl
told_by run v (Err e) false w a b = refl
told_by run v (Ok n) s w a b = ap (λ (x : Bool). if x && (v.run == run) then value_of n v ∷ [] else []) a
    ∙ (ap (λ (x : Bool). if w && x then value_of n v ∷ [] else []) b ∙ both_ways v n s w)

told_one : (run : ℕ) (v : value_type.Value) → told_of run (found_of v) ≡ as_list v (shown_by run v)
told_one run v = told_by run v v.found (v.run == run) (is_told_word v.word) (told_word v.word v.bodies.now v.end v.typed) refl

abbrev So_far : ℕ → List value_type.Value → ℕ → List Value
So_far run xs i = told_of run (flat_map found_of (take i xs))

grown : (run : ℕ) (xs : List value_type.Value) (i : ℕ) (d : value_type.Value) → i < length xs
    → So_far run xs (i + 1) ≡ So_far run xs i ++ as_list (get_or xs i d) (shown_by run (get_or xs i d))
grown run xs i d below =
    let x = get_or xs i d in
    ap (λ (l : List value_type.Value). told_of run (flat_map found_of l)) (take_more xs i d below)
    ∙ (ap (told_of run) (flat_map-append found_of (take i xs) (x ∷ []) ∙ ap (λ (l : List Value). flat_map found_of (take i xs) ++ l) (append-nil (found_of x)))
    ∙ (filter-append (λ v. is_telegram v.source && (v.run == run)) (flat_map found_of (take i xs)) (found_of x)
    ∙ ap (λ (l : List Value). So_far run xs i ++ l) (told_one run x)))

-- ---- the last of a run, and the first after a moment

abbrev pub IsHigh : ℕ → List value_type.Value → ℕ → Option ℕ → Type 0
IsHigh run xs i o = list_of o ≡ map (λ v. v.amount) (last_of (So_far run xs i))

abbrev after : ℕ → List Value → List Value
after m vs = filter (λ x. nat_lt m x.moment) vs

abbrev pub IsLow : ℕ → ℕ → List value_type.Value → ℕ → Option ℕ → Type 0
IsLow run m xs i o = list_of o ≡ map (λ v. v.amount) (take 1 (after m (So_far run xs i)))

last_push : (ys : List Value) (x : Value) → x ∷ [] ≡ last_of (ys ++ x ∷ [])
last_push ys x = let long = length_push ys x in grind (arith, common_steps)

high_by : (v : value_type.Value) (ys zs : List Value) (o p : Option ℕ) → list_of o ≡ map (λ v. v.amount) (last_of ys) → zs ≡ ys ++ as_list v p
    → (p ≡ None → list_of o ≡ map (λ v. v.amount) (last_of zs)) × (is_some p ≡ true → list_of p ≡ map (λ v. v.amount) (last_of zs))
high_by v ys zs o None is e = (λ _. is ∙ ap (λ (l : List Value). map (λ v. v.amount) (last_of l)) (sym (e ∙ append-nil ys)), λ some. absurd cc)
high_by v ys zs o (Some n) is e = (λ none. absurd cc, λ _. ap (map (λ v. v.amount)) (last_push ys (value_of n v) ∙ ap last_of (sym e)))

none_is : {X : Type 0} (o : Option X) → is_some o ≡ false → o ≡ None
none_is None e = refl
none_is (Some x) e = absurd cc

pub high_some : (run : ℕ) (xs : List value_type.Value) (i : ℕ) (d : value_type.Value) (o p : Option ℕ) → i < length xs
    → p ≡ shown_by run (get_or xs i d) → is_some p ≡ true → IsHigh run xs i o → IsHigh run xs (i + 1) p
high_some run xs i d o p below shows some is =
    (high_by (get_or xs i d) (So_far run xs i) (So_far run xs (i + 1)) o p is
    (grown run xs i d below ∙ ap (λ (q : Option ℕ). So_far run xs i ++ as_list (get_or xs i d) q) (sym shows))).1 some

pub high_none : (run : ℕ) (xs : List value_type.Value) (i : ℕ) (d : value_type.Value) (o p : Option ℕ) → i < length xs
    → p ≡ shown_by run (get_or xs i d) → is_some p ≡ false → IsHigh run xs i o → IsHigh run xs (i + 1) o
high_none run xs i d o p below shows none is =
    (high_by (get_or xs i d) (So_far run xs i) (So_far run xs (i + 1)) o p is
    (grown run xs i d below ∙ ap (λ (q : Option ℕ). So_far run xs i ++ as_list (get_or xs i d) q) (sym shows))).0 (none_is p none)

front_kept : (ys zs : List Value) (n : ℕ) → n ∷ [] ≡ map (λ v. v.amount) (take 1 ys) → n ∷ [] ≡ map (λ v. v.amount) (take 1 (ys ++ zs))
front_kept [] zs n e = absurd cc
front_kept (y ∷ ys) zs n e = e

front_new : (ys zs : List Value) → [] ≡ map (λ v. v.amount) (take 1 ys) → take 1 (ys ++ zs) ≡ take 1 zs
front_new [] zs e = refl
front_new (y ∷ ys) zs e = absurd cc

grown_after : (run m : ℕ) (xs : List value_type.Value) (i : ℕ) (d : value_type.Value) → i < length xs
    → after m (So_far run xs (i + 1)) ≡ after m (So_far run xs i) ++ after m (as_list (get_or xs i d) (shown_by run (get_or xs i d)))
grown_after run m xs i d below = ap (after m) (grown run xs i d below)
    ∙ filter-append (λ x. nat_lt m x.moment) (So_far run xs i) (as_list (get_or xs i d) (shown_by run (get_or xs i d)))

-- one was found before
pub low_kept : (run m : ℕ) (xs : List value_type.Value) (i : ℕ) (d : value_type.Value) (o : Option ℕ) → i < length xs
    → is_some o ≡ true → IsLow run m xs i o → IsLow run m xs (i + 1) o
low_kept run m xs i d None below some is = absurd cc
low_kept run m xs i d (Some n) below some is =
    front_kept (after m (So_far run xs i)) (after m (as_list (get_or xs i d) (shown_by run (get_or xs i d)))) n is
    ∙ ap (λ (l : List Value). map (λ v. v.amount) (take 1 l)) (sym (grown_after run m xs i d below))

early : (m : ℕ) (v : value_type.Value) (o : Option ℕ) → v.moment ≤ m → after m (as_list v o) ≡ []
early m v None le = refl
early m v (Some n) le =
    let no : nat_lt m v.moment ≡ false = grind (arith, nat_tests) in
    ap (λ (b : Bool). if b then value_of n v ∷ [] else []) no

nothing_more : (run m : ℕ) (xs : List value_type.Value) (i : ℕ) (d : value_type.Value) (o : Option ℕ) → i < length xs
    → after m (as_list (get_or xs i d) (shown_by run (get_or xs i d))) ≡ [] → IsLow run m xs i o → IsLow run m xs (i + 1) o
nothing_more run m xs i d o below none is = is ∙ ap (λ (l : List Value). map (λ v. v.amount) (take 1 l))
    (sym (grown_after run m xs i d below ∙ (ap (λ (l : List Value). after m (So_far run xs i) ++ l) none ∙ append-nil (after m (So_far run xs i)))))

pub low_early : (run m : ℕ) (xs : List value_type.Value) (i : ℕ) (d : value_type.Value) (o : Option ℕ) → i < length xs
    → (get_or xs i d).moment ≤ m → IsLow run m xs i o → IsLow run m xs (i + 1) o
low_early run m xs i d o below le is =
    nothing_more run m xs i d o below (early m (get_or xs i d) (shown_by run (get_or xs i d)) le) is

late : (m : ℕ) (v : value_type.Value) (o : Option ℕ) → m < v.moment → list_of o ≡ map (λ v. v.amount) (take 1 (after m (as_list v o)))
late m v None lt = refl
late m v (Some n) lt =
    let yes : nat_lt m v.moment ≡ true = grind (arith, nat_tests) in
    ap (λ (b : Bool). map (λ (x : Value). x.amount) (take 1 (if b then value_of n v ∷ [] else []))) (sym yes)

pub low_came : (run m : ℕ) (xs : List value_type.Value) (i : ℕ) (d : value_type.Value) (o p : Option ℕ) → i < length xs
    → m < (get_or xs i d).moment → is_some o ≡ false → p ≡ shown_by run (get_or xs i d) → IsLow run m xs i o → IsLow run m xs (i + 1) p
low_came run m xs i d (Some n) p below lt none shows is = absurd cc
low_came run m xs i d None p below lt none shows is =
    let x = get_or xs i d in
    ap list_of shows ∙ (late m x (shown_by run x) lt
    ∙ ap (map (λ v. v.amount)) (sym (ap (take 1) (grown_after run m xs i d below)
    ∙ front_new (after m (So_far run xs i)) (after m (as_list x (shown_by run x))) is)))

-- all values are passed
pub high_all : (run : ℕ) (xs : List value_type.Value) (i : ℕ) (o : Option ℕ) → length xs ≤ i → IsHigh run xs i o
    → list_of o ≡ map (λ v. v.amount) (last_of (told_of run (flat_map found_of xs)))
high_all run xs i o past is =
    is ∙ ap (λ (l : List value_type.Value). map (λ (v : Value). v.amount) (last_of (told_of run (flat_map found_of l)))) (take_all i xs past)

pub low_all : (run m : ℕ) (xs : List value_type.Value) (i : ℕ) (o : Option ℕ) → length xs ≤ i → IsLow run m xs i o
    → list_of o ≡ map (λ v. v.amount) (take 1 (filter (λ x. nat_lt m x.moment) (told_of run (flat_map found_of xs))))
low_all run m xs i o past is =
    is ∙ ap (λ (l : List value_type.Value). map (λ (v : Value). v.amount) (take 1 (filter (λ x. nat_lt m x.moment) (told_of run (flat_map found_of l))))) (take_all i xs past)

-- a value of another run
other_run : (v : value_type.Value) (old run : ℕ) (p : Option ℕ) → p ≡ shown_by old v → is_some p ≡ true → old ≢ run → shown_by run v ≡ None
other_run v old run p shows some apart = by_tests (v.run == old) (v.run == run) refl refl
  where
    by_tests : (a b : Bool) → (v.run == old) ≡ a → (v.run == run) ≡ b → shown_by run v ≡ None
    by_tests false b e f = let no : shown_by old v ≡ None = ap (λ (x : Bool). if x && is_told_word v.word then of_result v.found else None) e in absurd cc
    by_tests true true e f = absurd (apart (grind (arith, nat_tests)))
    by_tests true false e f = ap (λ (x : Bool). if x && is_told_word v.word then of_result v.found else None) f

pub low_other : (run m old : ℕ) (xs : List value_type.Value) (i : ℕ) (d : value_type.Value) (o p : Option ℕ) → i < length xs
    → p ≡ shown_by old (get_or xs i d) → is_some p ≡ true → old ≢ run → IsLow run m xs i o → IsLow run m xs (i + 1) o
low_other run m old xs i d o p below shows some apart is =
    nothing_more run m xs i d o below
    (ap (λ (q : Option ℕ). after m (as_list (get_or xs i d) q)) (other_run (get_or xs i d) old run p shows some apart)) is
