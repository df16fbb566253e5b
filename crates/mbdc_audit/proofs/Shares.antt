-- The shares of a place's window, as its parts have them.
use Rattle.std.proofs.Common.{arith, ◌≡◌, ◌&&◌, ◌+◌, ◌*◌, ◌<◌, ℕ, zero, suc, List, [], ◌∷◌, Bool, true, false, map, filter, length, Option, None, Some}
use Rattle.std.proofs.Common.{refl, sym, ap, ◌∙◌, subst, if◌then◌else◌, is_some, fold, not, eqb-true}
use Rattle.std.specs.Prelude.{nat_lt, flat_map, All, ◌==◌}
use Rattle.std.proofs.lemmas.List.Sums.{sum_by-cons, fold-append}
use Rattle.std.proofs.lemmas.Bool.Decides.{nat_tests}
use Rattle.mbdc_audit.specs.declared.curve.Amount as amount_type
use Rattle.mbdc_audit.specs.declared.grade.Grade.{Grade}
use Rattle.mbdc_audit.specs.declared.grade.Grade.TheVariants.{Measured, Hand, Provisional, Estimated, Unclear, Disturbed, Missing}
use Rattle.mbdc_audit.specs.declared.house.House as house_type
use Rattle.mbdc_audit.specs.declared.house.Part as part_type
use Rattle.mbdc_audit.specs.declared.house.Place as place_type
use Rattle.mbdc_audit.specs.declared.house.Window as window_type
use Rattle.mbdc_audit.specs.declared.numbers.Total.{Total}
use Rattle.mbdc_audit.specs.Amount.{amount, grade, is_told, known, mark, put_mark, unless_told}
use Rattle.mbdc_audit.specs.Grade.{has_number, rank, worst as worse}
use Rattle.mbdc_audit.specs.House.{Place, Run, Value, Window}
use Rattle.mbdc_audit.specs.Published.{Holder, Open, Share, amount_or_0, flat, house, is_held, is_whole, opened, plain, share, shares_of, user, weighted, worst}
use Rattle.mbdc_audit.specs.Totals.{joined, no_total, place_sum, share_in, total_of, total_with, window_sum}
use Rattle.mbdc_audit.specs.View.{house_of, known_in, part_of, place_of, run_of, window_of}
use Rattle.mbdc_audit.specs.Walk.{AreGraded, AreGradedAll, IsGraded, IsGradedPlace, is_held_part, open_of}
use Rattle.mbdc_audit.proofs.Summed.{Adds, add_row, adds, joined as joined_rows, has_some, whole_rows, with_row, worse_below, worse_measured, worse_row}
use Rattle.std.proofs.lemmas.List.{map-append}
use Rattle.std.proofs.lemmas.List.Folds.{flat_map-map}

-- ---- lists

pub first_of : {X : Type 0} (P : X → Type 0) (x : X) (xs : List X) → All P (x ∷ xs) → P x
first_of P x xs all = all 0 x (omega arith)

pub rest_of : {X : Type 0} (P : X → Type 0) (x : X) (xs : List X) → All P (x ∷ xs) → All P xs
rest_of P x xs all k d lt = all (suc k) d (omega (arith, lt))

-- ---- a mark with a number has an amount

unmarked : (b c d : Bool) (g : Grade) → has_number (if b then Disturbed else if c then Unclear else if not d then Missing else g) ≡ true → d ≡ true
unmarked true c d g e = absurd cc
unmarked false true d g e = absurd cc
unmarked false false true g e = refl
unmarked false false false g e = absurd cc

from_told : (b : Bool) (m other : Grade) → has_number (unless_told b m other) ≡ true → has_number m ≡ true
from_told true m other e = e
from_told false Measured other e = refl
from_told false Hand other e = e
from_told false Provisional other e = e
from_told false Estimated other e = e
from_told false Unclear other e = e
from_told false Disturbed other e = e
from_told false Missing other e = e

pub number_there : (runs : List Run) (values : List Value) (from to : ℕ) → has_number (mark runs values from to) ≡ true
    → is_some (amount runs values from to) ≡ true
number_there runs values from to e = unmarked _ _ (is_some (amount runs values from to)) _
    (from_told (is_told runs values from to) (grade runs values from to) (put_mark values) e)

if_there : (b : Bool) (a : Option ℕ) → (b ≡ true → is_some a ≡ true) → is_some (if b then a else None) ≡ b
if_there true a there = there refl
if_there false a there = refl

-- a part's amount is there exactly if its mark has a number
abbrev pub IsSome : part_type.Part → Type 0
IsSome x = is_some x.amount.amount ≡ has_number x.amount.grade

of_graded : (runs : List Run) (values : List Value) (from to : ℕ) (a : amount_type.Amount) → IsGraded runs values from to a
    → is_some a.amount ≡ has_number a.grade
of_graded runs values from to a g = ap is_some g.1
    ∙ (if_there (has_number (mark runs values from to)) (amount runs values from to) (number_there runs values from to) ∙ ap has_number (sym g.0))

pub are_some : (runs : List Run) (values : List Value) (parts : List part_type.Part) → AreGraded runs values parts → All IsSome parts
are_some runs values parts graded k d lt = of_graded runs values _ _ _ (graded k d lt)

-- ---- what a holder's parts consumed

abbrev pub share_of_part : ℕ → part_type.Part → Share
share_of_part weight x = record { amount = x.amount.amount; weight = weight; mark = x.amount.grade }

abbrev pub row_of : Holder → ℕ → List ℕ → List part_type.Part → List Share
row_of who weight name parts = map (share_of_part weight) (filter (is_held_part who name) parts)

abbrev pub share_row : List Share → Option (ℕ × Grade)
share_row [] = None
share_row (s ∷ ss) = Some (plain (s ∷ ss), worst (s ∷ ss))

no_more : (n : ℕ) → 0 + n ≡ n
no_more n = omega arith

plus_zero : (n : ℕ) → n ≡ 0 + n
plus_zero n = omega arith

joins : (weight : ℕ) (x : part_type.Part) (row : List Share) → Some (joined x (share_row row)) ≡ share_row (share_of_part weight x ∷ row)
joins weight x [] = ap (λ (n : ℕ). Some (n, x.amount.grade)) (plus_zero (amount_or_0 x.amount.amount))
joins weight x (s ∷ ss) = ap (λ (n : ℕ). Some (n, worse x.amount.grade (worst (s ∷ ss))))
    (sym (sum_by-cons (λ (s : Share). amount_or_0 s.amount) (share_of_part weight x) (s ∷ ss)))

one_more : (weight : ℕ) (x : part_type.Part) (b : Bool) (s : Option (ℕ × Grade)) (xs : List part_type.Part)
    → s ≡ share_row (map (share_of_part weight) xs)
    → (if b then Some (joined x s) else s) ≡ share_row (map (share_of_part weight) (if b then x ∷ xs else xs))
one_more weight x true s xs e = ap (λ (o : Option (ℕ × Grade)). Some (joined x o)) e ∙ joins weight x (map (share_of_part weight) xs)
one_more weight x false s xs e = e

pub share_is : (who : Holder) (weight : ℕ) (name : List ℕ) (parts : List part_type.Part) → share_in who name parts ≡ share_row (row_of who weight name parts)
share_is who weight name [] = refl
share_is who weight name (x ∷ parts) = one_more weight x (is_held_part who name x) (share_in who name parts) (filter (is_held_part who name) parts)
    (share_is who weight name parts)

-- a share has this weight, and an amount exactly if its mark has a number
abbrev pub IsOf : ℕ → Share → Type 0
IsOf weight s = (s.weight ≡ weight) × (is_some s.amount ≡ has_number s.mark)

all_more : {X : Type 0} (P : X → Type 0) (x : X) (xs : List X) → P x → All P xs → All P (x ∷ xs)
all_more P x xs p all zero d lt = p
all_more P x xs p all (suc k) d lt = all k d (omega (arith, lt))

kept : (weight : ℕ) (x : part_type.Part) (b : Bool) (xs : List part_type.Part) → IsSome x → All (IsOf weight) (map (share_of_part weight) xs)
    → All (IsOf weight) (map (share_of_part weight) (if b then x ∷ xs else xs))
kept weight x true xs some all = all_more (IsOf weight) (share_of_part weight x) (map (share_of_part weight) xs) (refl, some) all
kept weight x false xs some all = all

pub row_is : (who : Holder) (weight : ℕ) (name : List ℕ) (parts : List part_type.Part) → All IsSome parts → All (IsOf weight) (row_of who weight name parts)
row_is who weight name [] all = λ k d lt. absurd (omega (arith, lt))
row_is who weight name (x ∷ parts) all = kept weight x (is_held_part who name x) (filter (is_held_part who name) parts) (first_of IsSome x parts all)
    (row_is who weight name parts (rest_of IsSome x parts all))

weighs : (weight : ℕ) (row : List Share) → All (IsOf weight) row → weighted row ≡ plain row * weight
weighs weight [] all = omega arith
weighs weight (s ∷ row) all =
    let more = weighs weight row (rest_of (IsOf weight) s row all) in
    let one = (first_of (IsOf weight) s row all).0 in
    let w = sum_by-cons (λ (s : Share). amount_or_0 s.amount * s.weight) s row in
    let p = sum_by-cons (λ (s : Share). amount_or_0 s.amount) s row in
    omega (arith, more, w, ap (λ (n : ℕ). amount_or_0 s.amount * n) one, ap (λ (n : ℕ). n * weight) p)

and_true : (b : Bool) → (b && true) ≡ b
and_true true = refl
and_true false = refl

-- a share has an amount exactly if its mark has a number
abbrev pub IsMarked : Share → Type 0
IsMarked s = is_some s.amount ≡ has_number s.mark

pub whole : (s : Share) (row : List Share) → All IsMarked (s ∷ row) → is_whole (s ∷ row) ≡ nat_lt (rank (worst (s ∷ row))) 4
whole s [] all = and_true (is_some s.amount) ∙ first_of IsMarked s [] all
whole s (r ∷ row) all = ap (λ (b : Bool). b && is_whole (r ∷ row)) (first_of IsMarked s (r ∷ row) all)
    ∙ (ap (λ (b : Bool). has_number s.mark && b) (whole r row (rest_of IsMarked s (r ∷ row) all))
    ∙ sym (worse_below s.mark (worst (r ∷ row)) 4))

by_test : (t : Total) (row : List Share) (weight : ℕ) (b : Bool) → weighted row ≡ plain row * weight
    → (if b then record { plain = t.plain + plain row; weighted = t.weighted + plain row * weight; grade = worse t.grade (worst row); count = t.count + 1; without = t.without }
    else record { plain = t.plain; weighted = t.weighted; grade = worse t.grade (worst row); count = t.count + 1; without = t.without + 1 })
    ≡ with_row b t row
by_test t row weight true e = ap (λ (n : ℕ). record { plain = t.plain + plain row; weighted = t.weighted + n; grade = worse t.grade (worst row); count = t.count + 1; without = t.without }) (sym e)
by_test t row weight false e = refl

pub total_row : (t : Total) (weight : ℕ) (row : List Share) → All (IsOf weight) row → total_with t weight (share_row row) ≡ add_row t row
total_row t weight [] all = refl
total_row t weight (s ∷ row) all = by_test t (s ∷ row) weight (nat_lt (rank (worst (s ∷ row))) 4) (weighs weight (s ∷ row) all)
    ∙ ap (λ (b : Bool). with_row b t (s ∷ row)) (sym (whole s row (λ k d lt. (all k d lt).1)))

-- ---- the shares that are defined

held_same : {A : Type 0} (who : Holder) (p : place_type.Place A) (x : part_type.Part) → is_held who (place_of p) (part_of x) ≡ is_held_part who p.flat.now x
held_same (user n) p x = refl
held_same (flat name) p x = refl
held_same house p x = refl

abbrev as_share : ℕ → Option ℕ → Grade → Share
as_share weight a m = record { amount = a; weight = weight; mark = m }

two_fields : (a b : Option ℕ) (weight : ℕ) (m n : Grade) → a ≡ b → m ≡ n → as_share weight a m ≡ as_share weight b n
two_fields a b weight m n e f = ap (λ (x : Option ℕ). as_share weight x m) e ∙ ap (λ (g : Grade). as_share weight b g) f

pub share_same : {A : Type 0} (p : place_type.Place A) (w : Window) (x : part_type.Part)
    → IsGraded (map run_of p.runs.items) (known w.values) x.from x.to x.amount
    → share (place_of p) w x.from x.to ≡ share_of_part p.weight x
share_same p w x g = two_fields _ _ p.weight _ _ (sym g.1) (sym g.0)

one_held : {X Y : Type 0} (f : X → Share) (g : Y → Share) (x : X) (y : Y) (xs : List X) (ys : List Y) (b c : Bool) → b ≡ c → f x ≡ g y → map f xs ≡ map g ys
    → map f (if b then x ∷ xs else xs) ≡ map g (if c then y ∷ ys else ys)
one_held f g x y xs ys true true same e more = cc
one_held f g x y xs ys false false same e more = more
one_held f g x y xs ys true false same e more = absurd cc
one_held f g x y xs ys false true same e more = absurd cc

shares_same : {A : Type 0} (who : Holder) (p : place_type.Place A) (w : Window) (parts : List part_type.Part)
    → AreGraded (map run_of p.runs.items) (known w.values) parts
    → map (λ x. share (place_of p) w x.from x.to) (filter (is_held who (place_of p)) (map part_of parts)) ≡ row_of who p.weight p.flat.now parts
shares_same who p w [] graded = refl
shares_same who p w (x ∷ parts) graded = one_held (λ y. share (place_of p) w y.from y.to) (share_of_part p.weight) (part_of x) x
    (filter (is_held who (place_of p)) (map part_of parts)) (filter (is_held_part who p.flat.now) parts)
    (is_held who (place_of p) (part_of x)) (is_held_part who p.flat.now x) (held_same who p x)
    (share_same p w x (first_of (λ y. IsGraded (map run_of p.runs.items) (known w.values) y.from y.to y.amount) x parts graded))
    (shares_same who p w parts (rest_of (λ y. IsGraded (map run_of p.runs.items) (known w.values) y.from y.to y.amount) x parts graded))

-- a window is graded
abbrev pub IsGradedWindow : {A : Type 0} → place_type.Place A → window_type.Window A → Type 0
IsGradedWindow p w = (known_in w.values.items ≡ known (window_of w).values)
    × AreGraded (map run_of p.runs.items) (known_in w.values.items) w.parts.items

pub graded_window : {A : Type 0} (who : Holder) (t : Total) (p : place_type.Place A) (w : window_type.Window A) → IsGradedWindow p w
    → total_with t p.weight (share_in who p.flat.now w.parts.items) ≡ add_row t (shares_of who (open_of (place_of p) (window_of w)))
graded_window who t p w graded =
    let graded' : AreGraded (map run_of p.runs.items) (known (window_of w).values) w.parts.items =
    subst (λ (xs : List Value). AreGraded (map run_of p.runs.items) xs w.parts.items) graded.0 graded.1 in
    let some : All IsSome w.parts.items = are_some (map run_of p.runs.items) (known (window_of w).values) w.parts.items graded' in
    ap (λ (s : Option (ℕ × Grade)). total_with t p.weight s) (share_is who p.weight p.flat.now w.parts.items)
    ∙ (total_row t p.weight (row_of who p.weight p.flat.now w.parts.items) (row_is who p.weight p.flat.now w.parts.items some)
    ∙ ap (λ (row : List Share). add_row t row) (sym (shares_same who p (window_of w) w.parts.items graded')))

one_window : {A : Type 0} (who : Holder) (span : ℕ) (p : place_type.Place A) (w : window_type.Window A) (ws : List (window_type.Window A)) (b : Bool)
    → IsGradedWindow p w
    → ((t : Total) → fold (window_sum who span p) t ws ≡ fold add_row t (map (shares_of who) (map (λ v. open_of (place_of p) v) (filter (λ v. v.span == span) (map window_of ws)))))
    → (t : Total) → fold (window_sum who span p) (if b then total_with t p.weight (share_in who p.flat.now w.parts.items) else t) ws
    ≡ fold add_row t (map (shares_of who) (map (λ v. open_of (place_of p) v) (if b then window_of w ∷ filter (λ v. v.span == span) (map window_of ws) else filter (λ v. v.span == span) (map window_of ws))))
one_window who span p w ws true graded more t = more (total_with t p.weight (share_in who p.flat.now w.parts.items))
    ∙ ap (λ (u : Total). fold add_row u (map (shares_of who) (map (λ v. open_of (place_of p) v) (filter (λ v. v.span == span) (map window_of ws)))))
    (graded_window who t p w graded)
one_window who span p w ws false graded more t = more t

windows_total : {A : Type 0} (who : Holder) (span : ℕ) (p : place_type.Place A) (ws : List (window_type.Window A)) → All (IsGradedWindow p) ws
    → (t : Total) → fold (window_sum who span p) t ws
    ≡ fold add_row t (map (shares_of who) (map (λ v. open_of (place_of p) v) (filter (λ v. v.span == span) (map window_of ws))))
windows_total who span p [] graded t = refl
windows_total who span p (w ∷ ws) graded t = one_window who span p w ws (w.span == span) (first_of (IsGradedWindow p) w ws graded)
    (windows_total who span p ws (rest_of (IsGradedWindow p) w ws graded)) t

one_place : {A : Type 0} (who : Holder) (span used : ℕ) (p : place_type.Place A) (ps : List (place_type.Place A)) (b : Bool) → IsGradedPlace p
    → ((t : Total) → fold (place_sum who span used) t ps ≡ fold add_row t (map (shares_of who) (flat_map (λ q. map (λ w. open_of q w) (filter (λ w. w.span == span) q.windows)) (filter (λ q. q.used == used) (map place_of ps)))))
    → (t : Total) → fold (place_sum who span used) (if b then fold (window_sum who span p) t p.windows.items else t) ps
    ≡ fold add_row t (map (shares_of who) (flat_map (λ q. map (λ w. open_of q w) (filter (λ w. w.span == span) q.windows))
    (if b then place_of p ∷ filter (λ q. q.used == used) (map place_of ps) else filter (λ q. q.used == used) (map place_of ps))))
one_place who span used p ps true graded more t =
    let here : List Open = map (λ w. open_of (place_of p) w) (filter (λ w. w.span == span) (map window_of p.windows.items)) in
    let there : List Open = flat_map (λ q. map (λ w. open_of q w) (filter (λ w. w.span == span) q.windows)) (filter (λ q. q.used == used) (map place_of ps)) in
    ap (λ (u : Total). fold (place_sum who span used) u ps) (windows_total who span p p.windows.items graded t)
    ∙ (more (fold add_row t (map (shares_of who) here))
    ∙ (sym (fold-append add_row t (map (shares_of who) here) (map (shares_of who) there))
    ∙ ap (λ (rows : List (List Share)). fold add_row t rows) (sym (map-append (shares_of who) here there))))
one_place who span used p ps false graded more t = more t

places_total : {A : Type 0} (who : Holder) (span used : ℕ) (ps : List (place_type.Place A)) → AreGradedAll ps
    → (t : Total) → fold (place_sum who span used) t ps
    ≡ fold add_row t (map (shares_of who) (flat_map (λ q. map (λ w. open_of q w) (filter (λ w. w.span == span) q.windows)) (filter (λ q. q.used == used) (map place_of ps))))
places_total who span used [] graded t = refl
places_total who span used (p ∷ ps) graded t = one_place who span used p ps (p.used == used) (first_of IsGradedPlace p ps graded)
    (places_total who span used ps (rest_of IsGradedPlace p ps graded)) t

-- each share that is defined is there exactly if its mark has a number
pub share_marked : (p : Place) (w : Window) (from to : ℕ) → IsMarked (share p w from to)
share_marked p w from to = if_there (has_number (mark p.runs (known w.values) from to)) (amount p.runs (known w.values) from to)
    (number_there p.runs (known w.values) from to)

-- ---- the sum

worst_row : (xs : List Share) → 0 < length xs → worse_row Measured xs ≡ worst xs
worst_row [] some = absurd (omega (arith, some))
worst_row (s ∷ xs) some = worse_measured (worst (s ∷ xs))

none_joined : (rows : List (List Share)) → length (filter has_some rows) ≡ 0 → joined_rows rows ≡ []
none_joined [] none = refl
none_joined ([] ∷ rows) none = none_joined rows none
none_joined ((s ∷ ss) ∷ rows) none = absurd (omega (arith, none))

some_joined : (rows : List (List Share)) → 0 < length (filter has_some rows) → 0 < length (joined_rows rows)
some_joined [] some = some
some_joined ([] ∷ rows) some = some_joined rows some
some_joined ((s ∷ ss) ∷ rows) some = omega arith

marked : (t : Total) (rows : List (List Share)) (b : Bool) → (t.count == 0) ≡ b → Adds no_total t rows
    → (if b then record t { grade = Missing } else t).grade ≡ worst (joined_rows rows)
marked t rows true e a = sym (ap worst (none_joined rows (omega (arith, a.count_is, eqb-true t.count 0 e))))
marked t rows false e a = a.grade_is ∙ worst_row (joined_rows rows) (some_joined rows (grind (arith, nat_tests, a.count_is, e)))

same_but : (t : Total) (b : Bool) → ((if b then record t { grade = Missing } else t).plain ≡ t.plain)
    × ((if b then record t { grade = Missing } else t).weighted ≡ t.weighted)
    × ((if b then record t { grade = Missing } else t).count ≡ t.count)
    × ((if b then record t { grade = Missing } else t).without ≡ t.without)
same_but t true = (refl, refl, refl, refl)
same_but t false = (refl, refl, refl, refl)

pub joined_is : (f : Open → List Share) (os : List Open) → joined_rows (map f os) ≡ flat_map f os
joined_is f os = flat_map-map (λ (row : List Share). row) f os

-- A SUM is of these rows of shares
pub record IsSum (rows : List (List Share)) (t : Total) : Type 0 where
  pub plain_is : t.plain ≡ plain (joined_rows (whole_rows rows))
  pub weighted_is : t.weighted ≡ weighted (joined_rows (whole_rows rows))
  pub grade_is : t.grade ≡ worst (joined_rows rows)
  pub count_is : t.count ≡ length (filter has_some rows)
  pub without_is : t.without + length (whole_rows rows) ≡ t.count

pub is_sum : {A : Type 0} (h : house_type.House A) (who : Holder) (span used : ℕ) → AreGradedAll h.places.items
    → IsSum (map (shares_of who) (opened (house_of h) span used)) (total_of who span used h.places.items)
is_sum h who span used graded =
    let rows : List (List Share) = map (shares_of who) (opened (house_of h) span used) in
    let t : Total = fold (place_sum who span used) no_total h.places.items in
    let a : Adds no_total t rows = subst (λ (u : Total). Adds no_total u rows) (sym (places_total who span used h.places.items graded no_total)) (adds no_total rows) in
    let same = same_but t (t.count == 0) in
    record {
      plain_is = same.0 ∙ (a.plain_is ∙ no_more (plain (joined_rows (whole_rows rows))));
      weighted_is = same.1 ∙ (a.weighted_is ∙ no_more (weighted (joined_rows (whole_rows rows))));
      grade_is = marked t rows (t.count == 0) refl a;
      count_is = same.2 ∙ (a.count_is ∙ no_more (length (filter has_some rows)));
      without_is = omega (arith, same.2, same.3, a.count_is, a.without_is);
    }
