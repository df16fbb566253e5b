-- What the code makes of a holder's sum is the number that is defined.
use Rattle.std.proofs.Common.{arith, ◌≡◌, ◌≢◌, ◌&&◌, ◌<◌, ◌≤◌, ℕ, List, [], ◌∷◌, ◌++◌, Bool, true, false, map, filter, length, Option, None, Some}
use Rattle.std.proofs.Common.{refl, sym, ap, ◌∙◌, subst, if◌then◌else◌}
use Rattle.std.specs.Prelude.{◌==◌, nat_lt, flat_map}
use Rattle.std.specs.Option.{option_and_then}
use Rattle.mbdc_audit.specs.declared.house.House as house_type
use Rattle.mbdc_audit.specs.declared.house.Fact.TheVariants.{Factor}
use Rattle.mbdc_audit.specs.declared.numbers.Total.{Total}
use Rattle.mbdc_audit.specs.declared.uses.Counted.{Counted}
use Rattle.mbdc_audit.specs.declared.uses.Unit as unit_type
use Rattle.mbdc_audit.specs.House.{House}
use Rattle.mbdc_audit.specs.Number.{in_unit, scale_of}
use Rattle.mbdc_audit.specs.Published.{Holder, Open, Share, declared, exact, exact_of, flat, house, if_any, is_whole, numbered, opened, plain, quantity, shares, shares_of, sum, sum_of_house, user, weighted, worst}
use Rattle.mbdc_audit.specs.Totals.{is_known, total_of}
use Rattle.std.proofs.lemmas.Bool.Decides.{nat_tests}
use Rattle.mbdc_audit.specs.View.{house_of}
use Rattle.mbdc_audit.specs.Walk.{AreGradedAll, scale_in, sum_by_holder}
use Rattle.mbdc_audit.proofs.Summed.{all_joined, are_whole, has_some, joined, none_joined, some_joined, some_lack, whole_rows}
use Rattle.mbdc_audit.proofs.Shares.{IsSum, is_sum, joined_is}

-- ---- a sum in a unit

by_quantity : (q : Option Counted) (unit : unit_type.Unit) (factor : Option ℕ) (xs : List Share)
    → exact_of q unit factor xs ≡ in_unit (plain xs, weighted xs) (option_and_then (λ q. scale_of q unit) q) factor
by_quantity None unit factor xs = refl
by_quantity (Some q) unit factor xs = refl

pub exact_is : (h : House) (span used : ℕ) (unit : unit_type.Unit) (xs : List Share) (p w : ℕ) → p ≡ plain xs → w ≡ weighted xs
    → in_unit (p, w) (scale_in h used unit) (declared h (Factor used) span) ≡ exact h span used unit xs
exact_is h span used unit xs p w e f =
    ap (λ (n : ℕ). in_unit (n, w) (scale_in h used unit) (declared h (Factor used) span)) e
    ∙ (ap (λ (n : ℕ). in_unit (plain xs, n) (scale_in h used unit) (declared h (Factor used) span)) f
    ∙ sym (by_quantity (quantity h used) unit (declared h (Factor used) span) xs))

-- ---- if there are shares

if_true : {X : Type 0} (xs : List Share) (x : Option X) → 0 < length xs → is_whole xs ≡ true → if_any xs x ≡ x
if_true [] x some whole = absurd (omega (arith, some))
if_true (s ∷ xs) x some whole = ap (λ (b : Bool). if b then x else None) whole

if_false : {X : Type 0} (xs : List Share) (x : Option X) → is_whole xs ≡ false → if_any xs x ≡ None
if_false [] x lack = refl
if_false (s ∷ xs) x lack = ap (λ (b : Bool). if b then x else None) lack

if_none : {X : Type 0} (xs : List Share) (x : Option X) → xs ≡ [] → if_any xs x ≡ None
if_none xs x none = ap (λ (l : List Share). if_any l x) none

-- ---- a user's, a flat's

abbrev rows_of : House → Holder → ℕ → ℕ → List (List Share)
rows_of h who span used = map (shares_of who) (opened h span used)

pub known_sum : (h : House) (who : Holder) (span used : ℕ) (unit : unit_type.Unit) (t : Total) → IsSum (rows_of h who span used) t
    → t.without ≡ 0 → 0 < t.count
    → in_unit (t.plain, t.weighted) (scale_in h used unit) (declared h (Factor used) span) ≡ sum h who span used unit
known_sum h who span used unit t is none some =
    let rows : List (List Share) = rows_of h who span used in
    let all : length (whole_rows rows) ≡ length (filter has_some rows) = omega (arith, is.count_is, is.without_is, none) in
    let same : joined (whole_rows rows) ≡ shares h who span used = all_joined rows all ∙ joined_is (shares_of who) (opened h span used) in
    let more : 0 < length (joined (whole_rows rows)) = some_joined rows (omega (arith, is.count_is, all, some)) in
    exact_is h span used unit (shares h who span used) t.plain t.weighted (is.plain_is ∙ ap plain same) (is.weighted_is ∙ ap weighted same)
    ∙ sym (if_true (shares h who span used) (exact h span used unit (shares h who span used))
    (subst (λ (xs : List Share). 0 < length xs) same more)
    (subst (λ (xs : List Share). is_whole xs ≡ true) same (are_whole rows)))

pub lacking_sum : (h : House) (who : Holder) (span used : ℕ) (unit : unit_type.Unit) (t : Total) → IsSum (rows_of h who span used) t
    → t.without ≢ 0 → sum h who span used unit ≡ None
lacking_sum h who span used unit t is some =
    let rows : List (List Share) = rows_of h who span used in
    if_false (shares h who span used) (exact h span used unit (shares h who span used))
    (ap is_whole (sym (joined_is (shares_of who) (opened h span used)))
    ∙ some_lack rows (omega (arith, is.count_is, is.without_is, some)))

no_rows : (rows : List (List Share)) → length (filter has_some rows) ≡ 0 → joined rows ≡ []
no_rows [] none = refl
no_rows ([] ∷ rows) none = no_rows rows none
no_rows ((s ∷ ss) ∷ rows) none = absurd (omega (arith, none))

pub no_sum : (h : House) (who : Holder) (span used : ℕ) (unit : unit_type.Unit) (t : Total) → IsSum (rows_of h who span used) t
    → t.count ≡ 0 → sum h who span used unit ≡ None
no_sum h who span used unit t is none = if_none (shares h who span used) (exact h span used unit (shares h who span used))
    (sym (joined_is (shares_of who) (opened h span used)) ∙ no_rows (rows_of h who span used) (omega (arith, is.count_is, none)))

-- ---- the house's

kept_rows : (f : Open → List Share) (o : Open) (os : List Open) (row : List Share) (b : Bool) → f o ≡ row → is_whole row ≡ b
    → flat_map f (filter (λ o. is_whole (f o)) os) ≡ joined (whole_rows (map f os))
    → flat_map f (filter (λ o. is_whole (f o)) (o ∷ os)) ≡ joined (whole_rows (row ∷ map f os))
kept_rows f o os [] b e whole more =
    ap (λ (c : Bool). flat_map f (if c then o ∷ filter (λ o. is_whole (f o)) os else filter (λ o. is_whole (f o)) os)) (ap is_whole e)
    ∙ (ap (λ (row : List Share). row ++ flat_map f (filter (λ o. is_whole (f o)) os)) e ∙ more)
kept_rows f o os (s ∷ ss) true e whole more =
    ap (λ (c : Bool). flat_map f (if c then o ∷ filter (λ o. is_whole (f o)) os else filter (λ o. is_whole (f o)) os)) (ap is_whole e ∙ whole)
    ∙ (ap (λ (row : List Share). row ++ flat_map f (filter (λ o. is_whole (f o)) os)) e
    ∙ (ap (λ (ys : List Share). (s ∷ ss) ++ ys) more
    ∙ ap (λ (c : Bool). joined (if c then (s ∷ ss) ∷ whole_rows (map f os) else whole_rows (map f os))) (sym whole)))
kept_rows f o os (s ∷ ss) false e whole more =
    ap (λ (c : Bool). flat_map f (if c then o ∷ filter (λ o. is_whole (f o)) os else filter (λ o. is_whole (f o)) os)) (ap is_whole e ∙ whole)
    ∙ (more ∙ ap (λ (c : Bool). joined (if c then (s ∷ ss) ∷ whole_rows (map f os) else whole_rows (map f os))) (sym whole))

numbered_rows : (f : Open → List Share) (os : List Open) → flat_map f (filter (λ o. is_whole (f o)) os) ≡ joined (whole_rows (map f os))
numbered_rows f [] = refl
numbered_rows f (o ∷ os) = kept_rows f o os (f o) (is_whole (f o)) refl refl (numbered_rows f os)

abbrev numbers_of : House → ℕ → ℕ → List Share
numbers_of h span used = flat_map (shares_of house) (numbered h span used)

pub known_house : (h : House) (span used : ℕ) (unit : unit_type.Unit) (t : Total) → IsSum (rows_of h house span used) t
    → t.without < t.count
    → in_unit (t.plain, t.weighted) (scale_in h used unit) (declared h (Factor used) span) ≡ sum_of_house h span used unit
known_house h span used unit t is some =
    let rows : List (List Share) = rows_of h house span used in
    let same : joined (whole_rows rows) ≡ numbers_of h span used = sym (numbered_rows (shares_of house) (opened h span used)) in
    let more : 0 < length (joined (whole_rows rows)) = some_joined rows (omega (arith, is.without_is, some)) in
    exact_is h span used unit (numbers_of h span used) t.plain t.weighted (is.plain_is ∙ ap plain same) (is.weighted_is ∙ ap weighted same)
    ∙ sym (if_true (numbers_of h span used) (exact h span used unit (numbers_of h span used))
    (subst (λ (xs : List Share). 0 < length xs) same more)
    (subst (λ (xs : List Share). is_whole xs ≡ true) same (are_whole rows)))

pub no_house : (h : House) (span used : ℕ) (unit : unit_type.Unit) (t : Total) → IsSum (rows_of h house span used) t
    → t.count ≤ t.without → sum_of_house h span used unit ≡ None
no_house h span used unit t is none = if_none (numbers_of h span used) (exact h span used unit (numbers_of h span used))
    (numbered_rows (shares_of house) (opened h span used)
    ∙ none_joined (whole_rows (rows_of h house span used)) (omega (arith, is.without_is, none)))

-- ---- by holder

left : (a b : Bool) → (a && b) ≡ true → a ≡ true
left true b e = refl
left false b e = absurd cc

right : (a b : Bool) → (a && b) ≡ true → b ≡ true
right true b e = e
right false b e = absurd cc

zero_if : (n : ℕ) → (n == 0) ≡ true → n ≡ 0
zero_if n e = grind (arith, nat_tests)

below_if : (m n : ℕ) → nat_lt m n ≡ true → m < n
below_if m n e = grind (arith, nat_tests)

past_if : (m n : ℕ) → nat_lt m n ≡ false → n ≤ m
past_if m n e = grind (arith, nat_tests)

some_if : (n : ℕ) → (n == 0) ≡ false → n ≢ 0
some_if n e = grind (arith, nat_tests)

known_one : (h : House) (who : Holder) (span used : ℕ) (unit : unit_type.Unit) (t : Total) → IsSum (rows_of h who span used) t
    → ((t.without == 0) && nat_lt 0 t.count) ≡ true
    → in_unit (t.plain, t.weighted) (scale_in h used unit) (declared h (Factor used) span) ≡ sum h who span used unit
known_one h who span used unit t is e =
    known_sum h who span used unit t is (zero_if t.without (left (t.without == 0) (nat_lt 0 t.count) e)) (below_if 0 t.count (right (t.without == 0) (nat_lt 0 t.count) e))

unknown_one : (h : House) (who : Holder) (span used : ℕ) (unit : unit_type.Unit) (t : Total) (b : Bool) → IsSum (rows_of h who span used) t
    → (t.without == 0) ≡ b → (b && nat_lt 0 t.count) ≡ false → sum h who span used unit ≡ None
unknown_one h who span used unit t false is e f = lacking_sum h who span used unit t is (some_if t.without e)
unknown_one h who span used unit t true is e f = no_sum h who span used unit t is (omega (arith, past_if 0 t.count f))

pub known_by : (h : House) (who : Holder) (span used : ℕ) (unit : unit_type.Unit) (t : Total) → IsSum (rows_of h who span used) t
    → is_known who t ≡ true
    → in_unit (t.plain, t.weighted) (scale_in h used unit) (declared h (Factor used) span) ≡ sum_by_holder h who span used unit
known_by h (user n) span used unit t is e = known_one h (user n) span used unit t is e
known_by h (flat name) span used unit t is e = known_one h (flat name) span used unit t is e
known_by h house span used unit t is e = known_house h span used unit t is (below_if t.without t.count e)

pub unknown_by : (h : House) (who : Holder) (span used : ℕ) (unit : unit_type.Unit) (t : Total) → IsSum (rows_of h who span used) t
    → is_known who t ≡ false → sum_by_holder h who span used unit ≡ None
unknown_by h (user n) span used unit t is e = unknown_one h (user n) span used unit t (t.without == 0) is refl e
unknown_by h (flat name) span used unit t is e = unknown_one h (flat name) span used unit t (t.without == 0) is refl e
unknown_by h house span used unit t is e = no_house h span used unit t is (past_if t.without t.count e)

-- what the code sums is a holder's sum
pub known : {A : Type 0} (h : house_type.House A) (who : Holder) (span used : ℕ) (unit : unit_type.Unit) (t : Total) → AreGradedAll h.places.items
    → t ≡ total_of who span used h.places.items → is_known who t ≡ true
    → in_unit (t.plain, t.weighted) (scale_in (house_of h) used unit) (declared (house_of h) (Factor used) span) ≡ sum_by_holder (house_of h) who span used unit
known h who span used unit t graded is e = known_by (house_of h) who span used unit t
    (subst (λ (t : Total). IsSum (rows_of (house_of h) who span used) t) (sym is) (is_sum h who span used graded)) e

pub unknown : {A : Type 0} (h : house_type.House A) (who : Holder) (span used : ℕ) (unit : unit_type.Unit) (t : Total) → AreGradedAll h.places.items
    → t ≡ total_of who span used h.places.items → is_known who t ≡ false → sum_by_holder (house_of h) who span used unit ≡ None
unknown h who span used unit t graded is e = unknown_by (house_of h) who span used unit t
    (subst (λ (t : Total). IsSum (rows_of (house_of h) who span used) t) (sym is) (is_sum h who span used graded)) e

-- ---- what is beside it

pub mark_one : {A : Type 0} (h : house_type.House A) (who : Holder) (span used : ℕ) (t : Total) → AreGradedAll h.places.items
    → t ≡ total_of who span used h.places.items → t.grade ≡ worst (shares (house_of h) who span used)
mark_one h who span used t graded is =
    ap (λ (t : Total). t.grade) is ∙ ((is_sum h who span used graded).grade_is ∙ ap worst (joined_is (shares_of who) (opened (house_of h) span used)))
